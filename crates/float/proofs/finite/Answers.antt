-- `float::finite` meets its contract.
use mathlib.Core.Path.{◌∙◌}
use lib.Ieee.{of_bits, neg, div}
use Rattle.float.proofs.Strict.{below_top, not_below}
use Rattle.float.proofs.finite.Goals as goal

pub returns-then-x : goal.returns-then-x
unfolding of_bits neg div
returns-then-x c = below_top _ c.if-x.true

pub returns-else-x : goal.returns-else-x
unfolding of_bits div
returns-else-x c = c.if-x.false ∙ not_below _ c.if-x.false
