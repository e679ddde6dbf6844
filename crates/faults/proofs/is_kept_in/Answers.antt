-- `faults::is_kept_in` meets its contract.
use Rattle.faults.specs.Tests.{kept}
use Rattle.faults.proofs.is_kept_in.Goals as goal

pub returns : goal.returns
unfolding kept
returns c = simp (c.first_at.ensures, c.to_bits-2.ensures, c.to_bits.ensures, c.far_at.ensures, c.sqrt-d.ensures)
