-- What the loops of `blocks::fit_blocks` keep.
use Prim.Native.Nat.{◌-◌}
use Rattle.blocks.proofs.Sofar.{call, Sofar}
use Rattle.tangents.specs.Ways.{marks_of}
use Rattle.blocks.proofs.fit_blocks.Given as goal

abbrev pub invariant-loop-from : goal.invariant-loop-from
invariant-loop-from l = Sofar (call l.cutting (marks_of l.cutting l.marks) l.size l.tolerance l.initial.curves l.initial.firsts l.initial.worsts l.initial.params l.whole) l.from l.made l.curves l.firsts l.worsts l.params

abbrev pub decreases-loop-from : goal.decreases-loop-from
decreases-loop-from l = l.n - l.from
