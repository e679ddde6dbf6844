-- `joints::right_start`: the refusal is taken out first, and then whether there is a direction.
use mathlib.Core.Path.{◌∙◌}
use Rattle.std.proofs.Common.{Some, None}
use Rattle.float.proofs.Refusals.{handed_on}
use Rattle.joints.specs.Joints.{through, start_by, right_start}
use Rattle.joints.proofs.Joints.{lost, by_direction}
use Rattle.joints.proofs.right_start.Goals as goal

pub returns-in_err-direction : goal.returns-in_err-direction
unfolding right_start
returns-in_err-direction c = let j = c.args.joint in handed_on _ _ c.from_residual.ensures.1 ∙ lost (through j) (start_by j) _ c.in_err-direction.ensures

pub returns-in_default : goal.returns-in_default
unfolding start_by right_start
returns-in_default c = let j = c.args.joint in by_direction j (start_by j) None c.in_ok-direction.ensures c.in_default.is c.along.ensures

pub returns : goal.returns
unfolding start_by right_start
returns c = let j = c.args.joint in by_direction j (start_by j) (Some _) c.in_ok-direction.ensures c.in-Some.is c.opposite.ensures
