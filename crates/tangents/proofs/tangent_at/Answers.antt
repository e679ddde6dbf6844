-- `tangents::tangent_at` meets its contract.
use mathlib.Core.Path.{ap, ◌∙◌}
use Rattle.float.specs.Answer.{outcome}
use Rattle.marks.specs.Tangent.{tangent_between}
use Rattle.joints.specs.declared.Joint.{Joint}
use Rattle.tangents.specs.Ways.{tangent_at}
use Rattle.tangents.proofs.tangent_at.Goals as goal

pub returns : goal.returns
unfolding tangent_at
returns c = c.tangent_between.ensures ∙ ap (λ (j : Joint). outcome (tangent_between j.before j.at j.after)) c.joint_at-joint.ensures
