use mathlib.Core.Path.{refl}
use lib.Ieee.{add, mul, of_bits}
use Rattle.sections.proofs.middle.Goals as goal

pub returns : goal.returns
unfolding add mul of_bits
returns c = refl
