-- `roots::line::distance_to` meets its contract.
use Rattle.flat.specs.Line.{distance_to}
use Rattle.flat.proofs.line.distance_to.Goals as goal

pub returns : goal.returns
unfolding distance_to
returns c = simp c.abs.ensures
