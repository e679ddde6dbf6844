-- `parts::is_outer` meets its contract.
use mathlib.Core.Path.{refl}
use Rattle.parts.specs.Headings.{outer}
use Rattle.parts.proofs.is_outer.Goals as goal

pub returns : goal.returns
unfolding outer
returns c = refl
