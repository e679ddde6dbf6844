-- `faults::curve_of` meets its contract.
use Rattle.faults.specs.Tests.{curve_of}
use Rattle.faults.proofs.curve_of.Goals as goal

pub returns : goal.returns
unfolding curve_of
returns c = simp (c.mark_at-4.ensures, c.mark_at-3.ensures, c.mark_at-2.ensures, c.mark_at.ensures)
