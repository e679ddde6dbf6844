-- `border::put_place` meets its contract.
use mathlib.Core.Path.{refl}
use Rattle.border.proofs.put_place.Goals as goal

pub returns : goal.returns
returns c = refl
