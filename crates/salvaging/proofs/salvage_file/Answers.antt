-- `salvaging::salvage_file` meets its contract.
use mathlib.Core.Path.{sym}
use native.Mathlib.Omega.{arith}
use Rattle.packed_heads.proofs.Told.{held_told}
use Rattle.salvaging.proofs.Ways.{held-few, alone-over, printed_long, printed_broken, printed_many, printed_done}
use Rattle.salvaging.proofs.salvage_file.Goals as goal

pub returns-then-file-gt-MOST_READ : goal.returns-then-file-gt-MOST_READ
returns-then-file-gt-MOST_READ c = let a = c.args in printed_long a.file.now a.out.now a.report.now (omega arith) (alone-over a.out.now a.report.now 9 c.refuse.ensures)

pub returns-in_default : goal.returns-in_default
returns-in_default c = let a = c.args in printed_broken a.file.now a.out.now a.report.now (omega arith) (sym c.in_default.ensures) (alone-over a.out.now a.report.now 9 c.refuse-in_default.ensures)

pub returns-then-n-gt-MOST_CLEANED : goal.returns-then-n-gt-MOST_CLEANED
returns-then-n-gt-MOST_CLEANED c = let a = c.args in printed_many a.file.now a.out.now a.report.now (omega arith) (held_told _ _ _ _ _ (sym c.in-Some.ensures)) (omega arith) (alone-over a.out.now a.report.now 2 c.refuse-then-n-gt-MOST_CLEANED.ensures)

pub clean-requires : goal.clean-requires
clean-requires c = let t = held_told _ _ _ _ _ (sym c.in-Some.ensures) in (t.marks, held-few t)

pub returns : goal.returns
returns c = let a = c.args in printed_done a.file.now a.out.now a.report.now (omega arith) (held_told _ _ _ _ _ (sym c.in-Some.ensures)) (omega arith) c.clean.ensures
