-- `plane::curve_in_range` meets its contract.
use Rattle.plane.specs.Range.{curve_in_range}
use Rattle.plane.proofs.curve_in_range.Goals as goal

pub returns : goal.returns
unfolding curve_in_range
returns c = simp (c.point_in_range-4.ensures, c.point_in_range-3.ensures, c.point_in_range-2.ensures, c.point_in_range.ensures)
