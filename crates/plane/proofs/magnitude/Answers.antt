-- `plane::magnitude` meets its contract.
use Rattle.plane.specs.Plane.{magnitude_of}
use Rattle.plane.proofs.magnitude.Goals as goal

pub returns : goal.returns
unfolding magnitude_of
returns c = simp (c.sqrt.ensures, c.dot.ensures)
