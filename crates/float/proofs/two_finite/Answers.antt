-- `float::two_finite` meets its contract.
use mathlib.Core.Path.{◌∙◌}
use Rattle.float.proofs.Zeros.{two}
use Rattle.float.proofs.two_finite.Goals as goal

pub returns : goal.returns
returns c = c.vanishes.ensures ∙ two _ _
