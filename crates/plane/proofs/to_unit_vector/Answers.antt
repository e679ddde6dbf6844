-- `plane::to_unit_vector` meets its contract.
use Rattle.plane.specs.Plane.{direction_of}
use Rattle.plane.proofs.to_unit_vector.Goals as goal

pub returns : goal.returns
unfolding direction_of
returns c = simp (c.unit_by.ensures, c.magnitude.ensures)
