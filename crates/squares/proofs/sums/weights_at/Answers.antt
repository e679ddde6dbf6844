-- `squares::sums::weights_at` meets its contract.
use mathlib.Core.Path.{refl}
use Rattle.squares.specs.Sums.{weights_of}
use Rattle.squares.proofs.sums.weights_at.Goals as goal

pub returns : goal.returns
unfolding weights_of
returns c = refl
