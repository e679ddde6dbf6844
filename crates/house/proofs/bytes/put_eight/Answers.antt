-- `house::bytes::put_eight` meets its contract.
use mathlib.Core.Path.{◌∙◌}
use Prim.Native.Nat.{◌/◌}
use Rattle.house.proofs.Turns.{le-eight, put_both}
use Rattle.house.proofs.bytes.put_eight.Goals as goal

pub returns : goal.returns
returns c =
    let a = c.args in
    c.put_four-2.ensures
    ∙ rw (c.put_four.ensures, le-eight) (put_both a.out.now a.at 4 4 a.x (a.x / 4294967296))
