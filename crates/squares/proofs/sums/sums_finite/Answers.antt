-- `squares::sums::sums_finite` meets its contract.
use Rattle.squares.specs.Tests.{sums_finite}
use Rattle.squares.proofs.sums.sums_finite.Goals as goal

pub returns : goal.returns
unfolding sums_finite
returns c = simp (c.three_finite.ensures, c.two_finite.ensures)
