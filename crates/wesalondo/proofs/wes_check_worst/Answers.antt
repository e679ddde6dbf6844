-- `wesalondo::wes_check_worst` meets its contract.
use Rattle.wesalondo.proofs.wes_check_worst.Goals as goal

pub returns : goal.returns
returns c = rw (c.put_checked.ensures, c.check_worst-answer.ensures)
