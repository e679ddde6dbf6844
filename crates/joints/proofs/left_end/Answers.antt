-- `joints::left_end`: the refusal is taken out first, and then whether there is a direction.
use mathlib.Core.Path.{refl, sym, ◌∙◌}
use Rattle.std.proofs.Common.{Some, None}
use Rattle.float.specs.Calc.{give}
use Rattle.float.proofs.Answers.{outcome_ok}
use Rattle.float.proofs.Refusals.{handed_on}
use Rattle.joints.specs.Joints.{through, end_by, left_end}
use Rattle.joints.proofs.Joints.{lost, by_direction}
use Rattle.joints.proofs.left_end.Goals as goal

pub returns-in_err-direction : goal.returns-in_err-direction
unfolding left_end
returns-in_err-direction c = let j = c.args.joint in handed_on _ _ c.from_residual.ensures.1 ∙ lost (through j) (end_by j) _ c.in_err-direction.ensures

pub returns-in_default : goal.returns-in_default
unfolding end_by left_end
returns-in_default c = let j = c.args.joint in by_direction j (end_by j) None c.in_ok-direction.ensures c.in_default.is c.along.ensures

pub returns : goal.returns
unfolding end_by left_end
returns c = let j = c.args.joint in by_direction j (end_by j) (Some _) c.in_ok-direction.ensures c.in-Some.is (sym (outcome_ok (give _) refl))
