-- `plane::is_coordinate` meets its contract.
use mathlib.Core.Path.{refl}
use lib.Ieee.{of_bits}
use Rattle.float.specs.Number.{finite}
use Rattle.plane.specs.Range.{million, coordinate}
use Rattle.plane.proofs.Ranges.{by_size}
use Rattle.plane.proofs.is_coordinate.Goals as goal

pub returns : goal.returns
unfolding coordinate finite of_bits
returns c = simp (c.abs.ensures, c.well_formed.0.1) (by_size million _ refl)
