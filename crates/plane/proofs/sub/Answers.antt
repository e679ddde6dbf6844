-- `plane::sub` meets its contract.
use mathlib.Core.Path.{refl}
use Rattle.plane.specs.Plane.{minus}
use Rattle.plane.proofs.sub.Goals as goal

pub returns : goal.returns
unfolding minus
returns c = refl
