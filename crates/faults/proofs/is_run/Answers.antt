-- `faults::is_run` meets its contract.
use Rattle.faults.specs.Tests.{runs}
use Rattle.faults.proofs.is_run.Goals as goal

pub returns : goal.returns
unfolding runs
returns c = simp (c.is_same-2.ensures, c.is_same.ensures, c.is_finite.ensures)
