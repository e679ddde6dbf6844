-- `marks::tangent::end_tangent` meets its contract.
use mathlib.Core.Path.{ap, ◌∙◌}
use Rattle.float.specs.Answer.{outcome}
use Rattle.marks.proofs.Fine.{end_is}
use Rattle.marks.proofs.tangent.end_tangent.Goals as goal

pub returns : goal.returns
returns c = (simp (c.mark_at-2.ensures, c.mark_at.ensures) at c.along.ensures) ∙ ap outcome (end_is _)
