-- `nearest::heights_finite` meets its contract.
use Rattle.quintic.specs.Tests.{heights_finite}
use Rattle.nearest.proofs.heights_finite.Goals as goal

pub returns : goal.returns
unfolding heights_finite
returns c = simp (c.three_finite-2.ensures, c.three_finite.ensures)
