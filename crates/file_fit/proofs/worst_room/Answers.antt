-- `file_fit::worst_room` meets its contract.
use mathlib.Core.Path.{refl}
use Rattle.desk.specs.Desk.{no_marks}
use Rattle.file_fit.proofs.worst_room.Goals as goal

pub returns : goal.returns
unfolding no_marks
returns c = (refl, refl)
