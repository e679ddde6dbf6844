-- What the loops of `waiting::wait_blocks` keep.
use Rattle.waiting.proofs.Steps.{Laying}
use Rattle.waiting.proofs.wait_blocks.Given as goal

abbrev pub invariant-loop-from : goal.invariant-loop-from
invariant-loop-from l = Laying l.last l.size l.initial.open l.open l.stop l.depth l.from

abbrev pub decreases-loop-from : goal.decreases-loop-from
decreases-loop-from l = l.from
