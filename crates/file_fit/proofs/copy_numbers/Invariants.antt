-- What the loop of `file_fit::copy_numbers` keep.
use mathlib.Core.Path.{◌≡◌}
use mathlib.Core.List.{◌++◌}
use lib.ListN.{drop}
use Rattle.house.specs.Bytes.{words}
use Rattle.desk.specs.Desk.{floats}
use Rattle.file_fit.proofs.copy_numbers.Given as goal

abbrev pub invariant-loop-i : goal.invariant-loop-i
invariant-loop-i l = l.out ≡ floats (words l.i (drop l.at l.b)) ++ drop l.i l.initial.out
