-- `salvaging::report::count_len` meets its contract.
use native.Mathlib.Omega.{arith}
use Rattle.salvaging.proofs.Lengths.{count-length}
use Rattle.salvaging.proofs.report.count_len.Goals as goal

pub returns : goal.returns
returns c = let a = c.args in let e = count-length a.kept a.dropped in (omega (arith, c.decimal_len.ensures, c.decimal_len-2.ensures), omega (arith, c.decimal_len.ensures, c.decimal_len-2.ensures))
