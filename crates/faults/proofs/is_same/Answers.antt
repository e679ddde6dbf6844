-- `faults::is_same` meets its contract.
use Rattle.faults.specs.Tests.{same}
use Rattle.faults.proofs.is_same.Goals as goal

pub returns : goal.returns
unfolding same
returns c = simp (c.to_bits-4.ensures, c.to_bits-3.ensures, c.to_bits-2.ensures, c.to_bits.ensures)
