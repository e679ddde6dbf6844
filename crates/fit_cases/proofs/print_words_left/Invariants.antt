-- What the loop of `fit_cases::print_words_left` keeps.
use Rattle.std.proofs.Common.{◌≤◌}
use Rattle.fit_cases.proofs.print_words_left.Given as goal

abbrev pub invariant-loop-x : goal.invariant-loop-x
invariant-loop-x g l = (l.kept ≤ l.x-index) × (l.zeros ≤ l.x-index)
