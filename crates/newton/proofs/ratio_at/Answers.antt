-- `newton::ratio_at` meets its contract.
use Rattle.newton.specs.Newton.{ratio_of}
use Rattle.newton.proofs.ratio_at.Goals as goal

pub returns : goal.returns
unfolding ratio_of
returns c = simp (c.dot-3.ensures, c.dot-2.ensures, c.dot.ensures, c.sub-offset.ensures, c.de_casteljau2-qnnt.ensures, c.de_casteljau3-qnt.ensures)
