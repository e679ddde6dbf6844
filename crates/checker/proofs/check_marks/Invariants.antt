-- What the loop of `checker::check_marks` keeps.
use Rattle.checker.proofs.Under.{Faultless}
use Rattle.checker.proofs.check_marks.Given as goal

abbrev pub invariant-loop-i : goal.invariant-loop-i
invariant-loop-i l = Faultless l.tolerance l.n l.j l.first l.from l.c l.under l.params l.initial.far l.far l.i
