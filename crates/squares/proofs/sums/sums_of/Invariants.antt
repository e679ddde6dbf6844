-- What the loop of `squares::sums::sums_of` keeps.
use mathlib.Core.Path.{◌≡◌}
use Rattle.float.specs.Folds.{upto}
use Rattle.squares.specs.Sums.{sum_at, zeros}
use Rattle.squares.proofs.sums.sums_of.Given as goal

abbrev pub invariant-loop-i : goal.invariant-loop-i
invariant-loop-i l = l.s ≡ (upto l.i zeros (sum_at l.marks l.params l.st l.et)).val
