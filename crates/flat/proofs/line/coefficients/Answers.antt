-- `roots::line::coefficients` meets its contract.
use Rattle.flat.specs.Line.{coefficients_of}
use Rattle.flat.proofs.line.coefficients.Goals as goal

pub returns : goal.returns
unfolding coefficients_of
returns c = cc
