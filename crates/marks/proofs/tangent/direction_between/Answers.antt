-- `marks::tangent::direction_between` meets its contract.
use mathlib.Core.Path.{sym, ◌∙◌}
use Rattle.marks.specs.Tangent.{between}
use Rattle.marks.proofs.Fine.{direction_is}
use Rattle.marks.proofs.tangent.direction_between.Goals as goal

pub returns : goal.returns
unfolding between
returns c = (simp (c.scale.ensures, c.add.ensures, c.sub-v2.ensures, c.sub-v1.ensures) at c.bearing_of.ensures) ∙ sym (direction_is _ _ _)
