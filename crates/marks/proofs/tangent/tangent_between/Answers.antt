-- `marks::tangent::tangent_between` meets its contract.
use mathlib.Core.Path.{refl, sym, ap, ◌∙◌}
use Rattle.float.specs.Answer.{ok}
use Rattle.float.proofs.Refusals.{handed_on}
use Rattle.marks.proofs.Fine.{unit_by, direction_is, tangent_is}
use Rattle.marks.proofs.tangent.tangent_between.Goals as goal

pub returns-in_err-direction : goal.returns-in_err-direction
returns-in_err-direction c = handed_on _ _ c.from_residual.ensures.1 ∙ unit_by _ refl (c.in_err-direction.ensures ∙ direction_is _ _ _) ∙ sym (tangent_is _ _ _)

pub returns : goal.returns
returns c = unit_by _ (ap ok c.or_zero.ensures) (c.in_ok-direction.ensures ∙ direction_is _ _ _) ∙ sym (tangent_is _ _ _)
