-- `quintic::numbers::derivative6` meets its contract.
use Rattle.quintic.specs.Numbers.{derivative6_of}
use mathlib.Core.Path.{refl}
use lib.Ieee.{mul}
use Rattle.quintic.proofs.numbers.derivative6.Goals as goal

pub returns : goal.returns
unfolding derivative6_of mul
returns c = refl
