-- `quintic::numbers::de_casteljau5` meets its contract.
use Rattle.quintic.specs.Numbers.{number5}
use Rattle.quintic.proofs.numbers.de_casteljau5.Goals as goal

pub returns : goal.returns
unfolding number5
returns c = simp (c.de_casteljau4.ensures, c.de_casteljau2-yn4.ensures, c.de_casteljau2-yn3.ensures, c.de_casteljau2-yn2.ensures, c.de_casteljau2-yn1.ensures)
