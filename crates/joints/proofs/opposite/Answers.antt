-- `joints::opposite` meets its contract.
use mathlib.Core.Path.{sym, ◌∙◌}
use Rattle.joints.proofs.Joints.{about, too_far}
use Rattle.joints.proofs.opposite.Goals as goal

pub returns-then-point_finite : goal.returns-then-point_finite
returns-then-point_finite c = about _ _ c.scale-turned.ensures (sym c.point_finite.ensures ∙ c.if-point_finite.true)

pub returns : goal.returns
returns c = too_far _ _ c.scale-turned.ensures (sym c.point_finite.ensures ∙ c.if-point_finite.false)
