-- What the loop of `desk::copy_floats` keep.
use mathlib.Core.Path.{◌≡◌}
use mathlib.Core.List.{◌++◌}
use lib.ListN.{take, drop}
use Rattle.desk.specs.Desk.{floats}
use Rattle.desk.proofs.copy_floats.Given as goal

abbrev pub invariant-loop-i : goal.invariant-loop-i
invariant-loop-i l = l.out ≡ floats (take l.i l.xs) ++ drop l.i l.initial.out
