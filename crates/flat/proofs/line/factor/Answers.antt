-- `roots::line::factor` meets its contract.
use Rattle.flat.specs.Line.{factor_of}
use Rattle.flat.proofs.line.factor.Goals as goal

pub returns : goal.returns
unfolding factor_of
returns c = simp c.sqrt.ensures
