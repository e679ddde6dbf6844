-- `numerals::is_space` meets its contract.
use mathlib.Core.Path.{refl}
use Rattle.path.specs.Numbers.{is_space}
use Rattle.numerals.proofs.is_space.Goals as goal

pub returns : goal.returns
unfolding is_space
returns c = refl
