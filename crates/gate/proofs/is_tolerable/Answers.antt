-- `gate::is_tolerable` meets its contract.
use Rattle.gate.specs.Gate.{tolerable}
use Rattle.gate.proofs.is_tolerable.Goals as goal

pub returns : goal.returns
unfolding tolerable
returns c = rw c.finite.ensures
