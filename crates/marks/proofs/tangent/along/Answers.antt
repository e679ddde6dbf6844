-- `marks::tangent::along` meets its contract.
use mathlib.Core.Path.{refl, sym, ap, ◌∙◌}
use Rattle.float.specs.Answer.{ok, outcome}
use Rattle.float.proofs.Refusals.{handed_on}
use Rattle.plane.specs.Plane.{unit_of}
use Rattle.marks.proofs.Fine.{unit_by, along_is}
use Rattle.marks.proofs.tangent.along.Goals as goal

pub returns-in_err-direction : goal.returns-in_err-direction
returns-in_err-direction c = handed_on _ _ c.from_residual.ensures.1 ∙ unit_by _ refl c.in_err-direction.ensures ∙ ap (λ v. outcome (unit_of v)) c.sub.ensures ∙ sym (along_is _ _)

pub returns : goal.returns
returns c = unit_by _ (ap ok c.or_zero.ensures) c.in_ok-direction.ensures ∙ ap (λ v. outcome (unit_of v)) c.sub.ensures ∙ sym (along_is _ _)
