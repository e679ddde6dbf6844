-- `plane::point_finite` meets its contract.
use Rattle.plane.specs.Range.{point_finite}
use Rattle.plane.proofs.point_finite.Goals as goal

pub returns : goal.returns
unfolding point_finite
returns c = simp c.two_finite.ensures
