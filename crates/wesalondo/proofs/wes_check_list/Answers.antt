-- `wesalondo::wes_check_list` meets its contract.
use Rattle.wesalondo.proofs.wes_check_list.Goals as goal

pub returns : goal.returns
returns c = rw (c.put_checked.ensures, c.check_list-answer.ensures)
