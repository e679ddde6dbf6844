-- `file_fit::param_room` meets its contract.
use mathlib.Core.Path.{refl}
use Rattle.desk.specs.Desk.{zeros}
use Rattle.file_fit.proofs.param_room.Goals as goal

pub returns : goal.returns
unfolding zeros
returns c = (refl, refl)
