-- `plane::or_zero` meets its contract.
use mathlib.Core.Path.{◌∙◌}
use Rattle.plane.proofs.Fine.{zero_without}
use Rattle.plane.proofs.or_zero.Goals as goal

pub returns : goal.returns
returns c = c.unwrap_or.ensures ∙ zero_without _
