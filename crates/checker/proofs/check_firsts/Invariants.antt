-- What the loop of `checker::check_firsts` keeps.
use Rattle.checker.proofs.Firsts.{Rising}
use Rattle.checker.proofs.check_firsts.Given as goal

abbrev pub invariant-loop-j : goal.invariant-loop-j
invariant-loop-j l = Rising l.n l.count l.firsts l.j
