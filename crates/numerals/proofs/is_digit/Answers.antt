-- `numerals::is_digit` meets its contract.
use mathlib.Core.Path.{refl}
use Rattle.path.specs.Numbers.{is_digit}
use Rattle.numerals.proofs.is_digit.Goals as goal

pub returns : goal.returns
unfolding is_digit
returns c = refl
