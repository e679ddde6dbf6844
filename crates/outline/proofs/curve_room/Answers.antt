-- `outline::curve_room` meets its contract.
use mathlib.Core.Path.{refl}
use Rattle.desk.specs.Desk.{zeros}
use Rattle.outline.proofs.curve_room.Goals as goal

pub returns : goal.returns
unfolding zeros
returns c = (refl, refl)
