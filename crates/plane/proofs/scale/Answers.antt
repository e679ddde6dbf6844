-- `plane::scale` meets its contract.
use mathlib.Core.Path.{refl}
use Rattle.plane.specs.Plane.{times}
use Rattle.plane.proofs.scale.Goals as goal

pub returns : goal.returns
unfolding times
returns c = refl
