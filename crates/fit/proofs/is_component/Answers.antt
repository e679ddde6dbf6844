-- `fit::is_component` meets its contract.
use mathlib.Core.Path.{refl}
use lib.Ieee.{of_bits}
use Rattle.float.specs.Number.{f2, finite}
use Rattle.plane.proofs.Ranges.{by_size}
use Rattle.fit.specs.Fit.{component}
use Rattle.fit.proofs.is_component.Goals as goal

pub returns : goal.returns
unfolding component finite of_bits
returns c = simp c.abs.ensures (by_size f2 _ refl)
