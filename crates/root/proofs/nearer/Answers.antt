-- `root::nearer` meets its contract.
use mathlib.Core.Path.{refl}
use Rattle.root.specs.Guess.{nearer}
use Rattle.root.proofs.nearer.Goals as goal

pub returns : goal.returns
unfolding nearer
returns c = refl
