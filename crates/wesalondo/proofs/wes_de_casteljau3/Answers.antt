-- `wesalondo::wes_de_casteljau3` meets its contract.
use Rattle.wesalondo.proofs.wes_de_casteljau3.Goals as goal

pub returns : goal.returns
returns c = rw (c.put_point.ensures, c.de_casteljau3-answer.ensures, c.mark_at-w3.ensures, c.mark_at-w2.ensures, c.mark_at-w1.ensures)
