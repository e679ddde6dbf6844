-- `float::three_finite` meets its contract.
use mathlib.Core.Path.{◌∙◌}
use Rattle.float.proofs.Zeros.{three}
use Rattle.float.proofs.three_finite.Goals as goal

pub returns : goal.returns
returns c = c.vanishes.ensures ∙ three _ _ _
