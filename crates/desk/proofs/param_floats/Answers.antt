-- `desk::param_floats` meets its contract.
use mathlib.Core.Path.{refl}
use Rattle.desk.specs.Desk.{zeros}
use Rattle.desk.proofs.param_floats.Goals as goal

pub returns : goal.returns
unfolding zeros
returns c = (refl, refl)
