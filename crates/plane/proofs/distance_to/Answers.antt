-- `plane::distance_to` meets its contract.
use Rattle.plane.specs.Plane.{distance_of}
use Rattle.plane.proofs.distance_to.Goals as goal

pub returns : goal.returns
unfolding distance_of
returns c = simp (c.magnitude.ensures, c.sub.ensures)
