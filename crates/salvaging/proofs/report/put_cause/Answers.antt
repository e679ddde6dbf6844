-- `salvaging::report::put_cause` meets its contract.
use Rattle.text.proofs.Stores.{one}
use Rattle.salvaging.proofs.report.put_cause.Goals as goal

pub returns-in-Range : goal.returns-in-Range
returns-in-Range c = let a = c.args in rw c.in-Range.is (one a.out.now a.at _ c.put_bytes.ensures)

pub returns-in-Equal : goal.returns-in-Equal
returns-in-Equal c = let a = c.args in rw c.in-Equal.is (one a.out.now a.at _ c.put_bytes-in-Equal.ensures)
