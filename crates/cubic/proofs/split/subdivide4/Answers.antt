-- `cubic::split::subdivide4` meets its contract.
use Rattle.cubic.specs.Subdivide.{subdivide4_of}
use Rattle.cubic.proofs.split.subdivide4.Goals as goal

pub returns : goal.returns
unfolding subdivide4_of
returns c = simp (c.de_casteljau2-p.ensures, c.de_casteljau2-wnn2.ensures, c.de_casteljau2-wnn1.ensures, c.de_casteljau2-wn3.ensures, c.de_casteljau2-wn2.ensures, c.de_casteljau2-wn1.ensures)
