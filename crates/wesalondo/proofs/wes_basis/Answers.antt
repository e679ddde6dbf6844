-- `wesalondo::wes_basis` meets its contract.
use Rattle.wesalondo.proofs.wes_basis.Goals as goal

pub returns : goal.returns
returns c = rw (c.put_point.ensures, c.basis-answer.ensures, c.curve_of-c.ensures)
