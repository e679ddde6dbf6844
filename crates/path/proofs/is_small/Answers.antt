-- `path::is_small` meets its contract.
use mathlib.Core.Path.{refl}
use Rattle.path.specs.Decimals.{small}
use Rattle.path.proofs.is_small.Goals as goal

pub returns : goal.returns
unfolding small
returns c = refl
