-- A curve that goes out by its eight numbers comes in again as it was. Assumes nothing.
use mathlib.Core.Path.{refl}
use Rattle.marks.specs.Marks.{mark_at}
use Rattle.faults.specs.Tests.{curve_of}
use Rattle.border.specs.Crossing.{ReadAgain}

pub read_again : ReadAgain
unfolding curve_of mark_at
read_again c = refl
