-- `plane::add` meets its contract.
use mathlib.Core.Path.{refl}
use Rattle.plane.specs.Plane.{plus}
use Rattle.plane.proofs.add.Goals as goal

pub returns : goal.returns
unfolding plus
returns c = refl
