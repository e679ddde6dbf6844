-- What the loop of `root::root_by_digits` keeps.
use Rattle.root.proofs.Digits.{Digits}
use Rattle.root.proofs.root_by_digits.Given as goal

abbrev pub invariant-loop-turn : goal.invariant-loop-turn
invariant-loop-turn l = Digits l.a l.root l.rest l.left l._turn
