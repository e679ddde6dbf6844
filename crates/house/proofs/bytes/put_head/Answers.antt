-- `house::bytes::put_head` meets its contract.
use mathlib.Core.Path.{◌∙◌}
use Rattle.house.proofs.Turns.{put_both}
use Rattle.house.proofs.bytes.put_head.Goals as goal

pub returns : goal.returns
returns c =
    let a = c.args in
    c.put_two.ensures ∙ rw c.put_four.ensures (put_both a.out.now a.at 4 2 a.size a.kind)
