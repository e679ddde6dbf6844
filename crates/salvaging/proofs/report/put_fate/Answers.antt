-- `salvaging::report::put_fate` meets its contract.
use mathlib.Core.Path.{refl, sym, ap}
use native.Mathlib.Nat.{add-zero}
use native.Mathlib.Omega.{arith}
use lib.ListN.{length}
use Rattle.salvaging.proofs.Lengths.{lines_kept, lines_dropped}
use Rattle.salvaging.proofs.report.put_fate.Goals as goal

pub put_drop-requires : goal.put_drop-requires
put_drop-requires c = let e = ap length (lines_dropped c.args.i c.in-Dropped.is) in omega arith

pub returns-in-Kept : goal.returns-in-Kept
returns-in-Kept c = rw (lines_kept c.args.i c.in-Kept.is) (record { end = sym (add-zero _); out = refl })

pub returns-in-Dropped : goal.returns-in-Dropped
returns-in-Dropped c = rw (lines_dropped c.args.i c.in-Dropped.is) c.put_drop.ensures
