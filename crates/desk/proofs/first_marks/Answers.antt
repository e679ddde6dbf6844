-- `desk::first_marks` meets its contract.
use mathlib.Core.Path.{refl}
use Rattle.desk.specs.Desk.{no_marks}
use Rattle.desk.proofs.first_marks.Goals as goal

pub returns : goal.returns
unfolding no_marks
returns c = (refl, refl)
