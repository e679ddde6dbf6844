-- `cubic::eval::de_casteljau2` meets its contract.
use Rattle.cubic.specs.Basis.{casteljau2}
use Rattle.cubic.proofs.eval.de_casteljau2.Goals as goal

pub returns : goal.returns
unfolding casteljau2
returns c = simp (c.add.ensures, c.scale-2.ensures, c.scale.ensures)
