-- `plane::dot` meets its contract.
use mathlib.Core.Path.{refl}
use Rattle.plane.specs.Plane.{dot_of}
use Rattle.plane.proofs.dot.Goals as goal

pub returns : goal.returns
unfolding dot_of
returns c = refl
