-- `wesalondo::wes_check_worst_ring` meets its contract.
use Rattle.wesalondo.proofs.wes_check_worst_ring.Goals as goal

pub returns : goal.returns
returns c = rw (c.put_checked.ensures, c.check_worst_ring-answer.ensures)
