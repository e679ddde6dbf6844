-- What the loops of `stages::steps::reparameterize` keep.
use Rattle.stages.specs.Newton.{step_at}
use Rattle.stages.proofs.InPlace.{Done}
use Rattle.stages.proofs.steps.reparameterize.Given as goal

abbrev pub invariant-loop-i : goal.invariant-loop-i
invariant-loop-i l = Done (step_at l.marks l.c l.initial.params) l.initial.params l.params l.fine l.i
