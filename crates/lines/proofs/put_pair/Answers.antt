-- `lines::put_pair` meets its contract.
use native.Mathlib.Omega.{arith}
use Rattle.text.specs.Text.{decimal}
use Rattle.text.proofs.Stores.{one, next}
use Rattle.lines.specs.Lines.{newline, pair_line}
use Rattle.lines.proofs.Turns.{length-pair}
use Rattle.lines.proofs.put_pair.Goals as goal

pub put_bytes-first-requires : goal.put_bytes-first-requires
put_bytes-first-requires c = let a = c.args in omega (arith, length-pair a.word.now a.a a.between.now a.b)

pub put_decimal-second-requires : goal.put_decimal-second-requires
put_decimal-second-requires c = let a = c.args in omega (arith, length-pair a.word.now a.a a.between.now a.b, c.put_bytes-first.ensures.0)

pub put_bytes-number-requires : goal.put_bytes-number-requires
put_bytes-number-requires c = let a = c.args in omega (arith, length-pair a.word.now a.a a.between.now a.b, c.put_bytes-first.ensures.0, c.put_decimal-second.ensures.0)

pub put_decimal-end-requires : goal.put_decimal-end-requires
put_decimal-end-requires c = let a = c.args in omega (arith, length-pair a.word.now a.a a.between.now a.b, c.put_bytes-first.ensures.0, c.put_decimal-second.ensures.0, c.put_bytes-number.ensures.0)

pub put_bytes-requires : goal.put_bytes-requires
put_bytes-requires c = let a = c.args in omega (arith, length-pair a.word.now a.a a.between.now a.b, c.put_bytes-first.ensures.0, c.put_decimal-second.ensures.0, c.put_bytes-number.ensures.0, c.put_decimal-end.ensures.0)

pub returns : goal.returns
unfolding pair_line
returns c =
    let a = c.args in
    next (next (next (next (one a.out.now 0 a.word.now c.put_bytes-first.ensures) (one _ _ (decimal a.a) c.put_decimal-second.ensures)) (one _ _ a.between.now c.put_bytes-number.ensures)) (one _ _ (decimal a.b) c.put_decimal-end.ensures)) (one _ _ newline c.put_bytes.ensures)
