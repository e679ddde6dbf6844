-- What the loop of `checker::List::check_curves` keeps.
use Rattle.ring.specs.Ring.{whole}
use Rattle.checker.proofs.Lists.{Faultless}
use Rattle.checker.proofs.List.check_curves.Given as goal

abbrev pub invariant-loop-j : goal.invariant-loop-j
invariant-loop-j l = Faultless l.self.form (whole l.self.outline l.self.marks.now) l.self.tolerance l.self.count l.self.curves.now l.self.firsts.now l.self.worsts.now l.self.params.now l.j
