-- `border::eight` meets its contract.
use mathlib.Core.Path.{refl}
use Rattle.border.proofs.eight.Goals as goal

pub returns : goal.returns
returns c = refl
