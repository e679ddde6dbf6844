-- `quintic::numbers::de_casteljau3` meets its contract.
use Rattle.quintic.specs.Numbers.{number3}
use Rattle.quintic.proofs.numbers.de_casteljau3.Goals as goal

pub returns : goal.returns
unfolding number3
returns c = simp (c.de_casteljau2.ensures, c.de_casteljau2-yn2.ensures, c.de_casteljau2-yn1.ensures)
