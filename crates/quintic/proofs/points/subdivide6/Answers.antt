-- `quintic::points::subdivide6` meets its contract.
use Rattle.quintic.specs.Points.{subdivide6_of}
use Rattle.quintic.proofs.points.subdivide6.Goals as goal

pub returns : goal.returns
unfolding subdivide6_of
returns c = simp (c.de_casteljau2-p.ensures, c.de_casteljau2-d2.ensures, c.de_casteljau2-d1.ensures, c.de_casteljau2-c3.ensures, c.de_casteljau2-c2.ensures, c.de_casteljau2-c1.ensures, c.de_casteljau2-b4.ensures, c.de_casteljau2-b3.ensures, c.de_casteljau2-b2.ensures, c.de_casteljau2-b1.ensures, c.de_casteljau2-a5.ensures, c.de_casteljau2-a4.ensures, c.de_casteljau2-a3.ensures, c.de_casteljau2-a2.ensures, c.de_casteljau2-a1.ensures)
