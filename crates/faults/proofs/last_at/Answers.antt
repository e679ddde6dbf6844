-- `faults::last_at` meets its contract.
use Rattle.faults.specs.Tests.{last_at, stop_at}
use Rattle.faults.proofs.last_at.Goals as goal

pub returns : goal.returns
unfolding last_at stop_at
returns c = c.stop_at.ensures
