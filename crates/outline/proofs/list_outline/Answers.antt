-- `outline::list_outline` meets its contract.
use mathlib.Core.Path.{sym}
use native.Mathlib.Omega.{arith}
use lib.Seq.{length-take-le}
use Rattle.lines.proofs.Handed.{over-front}
use Rattle.outline.proofs.list_outline.Goals as goal

pub slice_bounds-hand_over-end : goal.slice_bounds-hand_over-end
slice_bounds-hand_over-end c = sym (length-take-le _ _ (omega arith))

pub returns : goal.returns
returns c = over-front c.put_listing-size.ensures.1 (omega arith) _ c.hand_over.ensures
