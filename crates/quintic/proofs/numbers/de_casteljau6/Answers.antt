-- `quintic::numbers::de_casteljau6` meets its contract.
use Rattle.quintic.specs.Numbers.{number6}
use Rattle.quintic.proofs.numbers.de_casteljau6.Goals as goal

pub returns : goal.returns
unfolding number6
returns c = simp (c.de_casteljau5.ensures, c.de_casteljau2-y5.ensures, c.de_casteljau2-y4.ensures, c.de_casteljau2-y3.ensures, c.de_casteljau2-y2.ensures, c.de_casteljau2-y1.ensures)
