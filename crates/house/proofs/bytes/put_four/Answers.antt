-- `house::bytes::put_four` meets its contract.
use mathlib.Core.Path.{◌∙◌}
use Prim.Native.Nat.{◌/◌}
use Rattle.house.proofs.Turns.{le_four, put_both}
use Rattle.house.proofs.bytes.put_four.Goals as goal

pub returns : goal.returns
returns c =
    let a = c.args in
    c.put_two-2.ensures
    ∙ rw (c.put_two.ensures, le_four) (put_both a.out.now a.at 2 2 a.x (a.x / 65536))
