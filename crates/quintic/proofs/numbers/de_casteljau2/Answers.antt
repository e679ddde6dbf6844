-- `quintic::numbers::de_casteljau2` meets its contract.
use Rattle.quintic.specs.Numbers.{number2}
use Rattle.quintic.proofs.numbers.de_casteljau2.Goals as goal

pub returns : goal.returns
unfolding number2
returns c = cc
