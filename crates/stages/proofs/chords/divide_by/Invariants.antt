-- What the loop of `stages::chords::divide_by` keeps.
use Rattle.stages.specs.Chords.{part_at}
use Rattle.stages.proofs.InPlace.{Done}
use Rattle.stages.proofs.chords.divide_by.Given as goal

abbrev pub invariant-loop-part : goal.invariant-loop-part
invariant-loop-part l = Done (part_at l.initial.params l.total) l.initial.params l.params l.fine l.part-index
