-- What the loops of `stages::chords::sum_distances` keep.
use Rattle.stages.proofs.Lengths.{Summed}
use Rattle.stages.proofs.chords.sum_distances.Given as goal

abbrev pub invariant-loop-k : goal.invariant-loop-k
invariant-loop-k l = Summed l.marks l.initial.params l.params l.total l.k
