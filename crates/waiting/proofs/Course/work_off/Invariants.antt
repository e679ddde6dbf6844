-- What the loops of `waiting::Course::work_off` keep.
use Prim.Native.Nat.{◌-◌, ◌*◌}
use Rattle.waiting.proofs.Loop.{call, Sofar}
use Rattle.waiting.proofs.Course.work_off.Given as goal

abbrev pub invariant-loop-s : goal.invariant-loop-s
invariant-loop-s l = Sofar (call l.self.heading l.self.marks.now l.self.round.now l.self.tail l.self.size l.self.tolerance l.initial.curves l.initial.firsts l.initial.worsts l.initial.params l.initial.open) l.from l.to l.depth l.made l.curves l.firsts l.worsts l.params l.open

abbrev pub decreases-loop-s : goal.decreases-loop-s
decreases-loop-s l = 2 * (l.n - l.from) - l.depth
