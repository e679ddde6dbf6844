-- `roots::intercept::heights_of` meets its contract.
use Rattle.intercept.specs.Intercept.{heights_of}
use Rattle.intercept.proofs.intercept.heights_of.Goals as goal

pub returns : goal.returns
unfolding heights_of
returns c = cc
