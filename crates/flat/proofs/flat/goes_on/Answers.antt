-- `flat::flat::goes_on` meets its contract.
use Rattle.float.proofs.Truth.{and-true}
use Rattle.flat.specs.Flat.{goes_on}
use Rattle.flat.specs.Tests.{as_test}
use Rattle.flat.proofs.flat.goes_on.Goals as goal

pub returns : goal.returns
unfolding goes_on as_test
returns c = simp (c.test_of.ensures, c.finite.ensures, c.signum.ensures, and-true)
