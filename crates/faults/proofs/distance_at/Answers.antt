-- `faults::distance_at` meets its contract.
use Rattle.faults.specs.Tests.{distance_at}
use Rattle.faults.proofs.distance_at.Goals as goal

pub returns : goal.returns
unfolding distance_at
returns c = simp (c.sqrt.ensures, c.error_at.ensures)
