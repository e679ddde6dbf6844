-- `faults::is_finite` meets its contract.
use Rattle.faults.specs.Tests.{curve_finite}
use Rattle.faults.proofs.is_finite.Goals as goal

pub returns : goal.returns
unfolding curve_finite
returns c = simp (c.point_finite-4.ensures, c.point_finite-3.ensures, c.point_finite-2.ensures, c.point_finite.ensures)
