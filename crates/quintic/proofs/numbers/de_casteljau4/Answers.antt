-- `quintic::numbers::de_casteljau4` meets its contract.
use Rattle.quintic.specs.Numbers.{number4}
use Rattle.quintic.proofs.numbers.de_casteljau4.Goals as goal

pub returns : goal.returns
unfolding number4
returns c = simp (c.de_casteljau3.ensures, c.de_casteljau2-yn3.ensures, c.de_casteljau2-yn2.ensures, c.de_casteljau2-yn1.ensures)
