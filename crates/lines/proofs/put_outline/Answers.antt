-- `lines::put_outline` meets its contract.
use native.Mathlib.Omega.{arith}
use lib.Seq.{length-take-le}
use Rattle.text.proofs.Stores.{next}
use Rattle.lines.specs.Lines.{outline_lines}
use Rattle.lines.proofs.put_outline.Goals as goal

pub returns : goal.returns
unfolding outline_lines
returns c =
    let a = c.args in
    (omega arith, rw (length-take-le a.k a.firsts.now (omega arith)) (next c.put_two-pieces.ensures.1 c.put_pieces.ensures.1))
