-- `text::decimal_len` meets its contract. The digits that are counted and those of what is left are those of the number.
use mathlib.Core.Path.{ap}
use native.Mathlib.Omega.{arith}
use lib.ListN.{length}
use Rattle.text.proofs.Digits.{decimal_one, length_more, decimal_u64}
use Rattle.text.proofs.decimal_len.Goals as goal

pub overflow_add-len : goal.overflow_add-len
overflow_add-len c = let n = c.args.n in omega (arith, c.loop-rest.invariant.0, decimal_u64 n (omega arith))

pub loop-rest-preserved : goal.loop-rest-preserved
loop-rest-preserved c = let l = c.loop-rest in (omega (arith, l.invariant.0, length_more l.rest (omega arith)), omega arith)

pub returns : goal.returns
returns c =
    let l = c.loop-rest in
    let n = c.args.n in
    let e = ap length (decimal_one l.rest (omega arith)) in
    (omega (arith, l.invariant.0, decimal_u64 n (omega arith)), omega (arith, l.invariant.0))
