-- `salvaging::report::fate_len` meets its contract.
use mathlib.Core.Path.{ap}
use native.Mathlib.Omega.{arith}
use lib.ListN.{length}
use Rattle.salvaging.proofs.Lengths.{lines_kept, dropped_length}
use Rattle.salvaging.proofs.report.fate_len.Goals as goal

pub returns-in-Kept : goal.returns-in-Kept
returns-in-Kept c = let e = ap length (lines_kept c.args.i c.in-Kept.is) in (omega arith, omega arith)

pub returns-in-Dropped : goal.returns-in-Dropped
returns-in-Dropped c = let e = dropped_length c.args.i c.in-Dropped.is in (omega (arith, c.decimal_len.ensures), omega (arith, c.decimal_len.ensures))
