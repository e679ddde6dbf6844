-- `export::curve_within` meets its contract.
use mathlib.Core.Path.{refl}
use Rattle.path.specs.Range.{curve_within}
use Rattle.export.proofs.curve_within.Goals as goal

pub returns : goal.returns
unfolding curve_within
returns c = rw (c.point_within-4.ensures, c.point_within-3.ensures, c.point_within-2.ensures, c.point_within.ensures) refl
