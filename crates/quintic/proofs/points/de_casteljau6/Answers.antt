-- `quintic::points::de_casteljau6` meets its contract.
use Rattle.quintic.specs.Points.{casteljau6}
use Rattle.quintic.proofs.points.de_casteljau6.Goals as goal

pub returns : goal.returns
unfolding casteljau6
returns c = simp (c.de_casteljau5.ensures, c.de_casteljau2-wn5.ensures, c.de_casteljau2-wn4.ensures, c.de_casteljau2-wn3.ensures, c.de_casteljau2-wn2.ensures, c.de_casteljau2-wn1.ensures)
