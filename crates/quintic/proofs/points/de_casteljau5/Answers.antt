-- `quintic::points::de_casteljau5` meets its contract.
use Rattle.quintic.specs.Points.{casteljau5}
use Rattle.quintic.proofs.points.de_casteljau5.Goals as goal

pub returns : goal.returns
unfolding casteljau5
returns c = simp (c.de_casteljau4.ensures, c.de_casteljau2-wn4.ensures, c.de_casteljau2-wn3.ensures, c.de_casteljau2-wn2.ensures, c.de_casteljau2-wn1.ensures)
