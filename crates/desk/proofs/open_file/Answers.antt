-- `desk::open_file` meets its contract.
use native.Mathlib.Omega.{arith}
use Rattle.desk.proofs.Opened.{too_long, opened_as}
use Rattle.desk.proofs.open_file.Goals as goal

pub returns-then-file-gt-MOST_READ : goal.returns-then-file-gt-MOST_READ
returns-then-file-gt-MOST_READ c = too_long _ (omega arith)

pub returns : goal.returns
returns c = let a = c.args in opened_as a.file.now a.marks.now a.firsts.now a.worsts.now a.curves.now a.params.now _ _ (omega arith) c.requires c.read_file.ensures c.map_err.ensures.cases
