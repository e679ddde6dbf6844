-- `cubic::eval::de_casteljau3` meets its contract.
use Rattle.cubic.specs.Basis.{casteljau3}
use Rattle.cubic.proofs.eval.de_casteljau3.Goals as goal

pub returns : goal.returns
unfolding casteljau3
returns c = simp (c.de_casteljau2.ensures, c.de_casteljau2-wn2.ensures, c.de_casteljau2-wn1.ensures)
