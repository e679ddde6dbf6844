-- `plane::point_in_range` meets its contract.
use Rattle.plane.specs.Range.{point_in_range}
use Rattle.plane.proofs.point_in_range.Goals as goal

pub returns : goal.returns
unfolding point_in_range
returns c = simp (c.is_coordinate-2.ensures, c.is_coordinate.ensures)
