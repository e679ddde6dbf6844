-- `wesalondo::wes_de_casteljau4` meets its contract.
use Rattle.wesalondo.proofs.wes_de_casteljau4.Goals as goal

pub returns : goal.returns
returns c = rw (c.put_point.ensures, c.de_casteljau4-answer.ensures, c.curve_of-c.ensures)
