-- `cubic::eval::de_casteljau4` meets its contract.
use Rattle.cubic.specs.Basis.{casteljau4}
use Rattle.cubic.proofs.eval.de_casteljau4.Goals as goal

pub returns : goal.returns
unfolding casteljau4
returns c = simp (c.de_casteljau3.ensures, c.de_casteljau2-wn3.ensures, c.de_casteljau2-wn2.ensures, c.de_casteljau2-wn1.ensures)
