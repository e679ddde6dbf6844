-- `roots::intercept::five_finite` meets its contract.
use Rattle.quintic.specs.Tests.{five_finite}
use Rattle.intercept.proofs.intercept.five_finite.Goals as goal

pub returns : goal.returns
unfolding five_finite
returns c = simp (c.two_finite.ensures, c.three_finite.ensures)
