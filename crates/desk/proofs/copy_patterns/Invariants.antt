-- What the loop of `desk::copy_patterns` keep.
use mathlib.Core.Path.{◌≡◌}
use mathlib.Core.List.{◌++◌}
use lib.ListN.{take, drop}
use Rattle.desk.specs.Desk.{patterns}
use Rattle.desk.proofs.copy_patterns.Given as goal

abbrev pub invariant-loop-i : goal.invariant-loop-i
invariant-loop-i l = l.out ≡ patterns (take l.i l.xs) ++ drop l.i l.initial.out
