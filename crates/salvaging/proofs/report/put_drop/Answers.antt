-- `salvaging::report::put_drop` meets its contract.
use native.Mathlib.Omega.{arith}
use Rattle.text.specs.Text.{decimal}
use Rattle.text.proofs.Stores.{one, next}
use Rattle.lines.specs.Lines.{blank, newline}
use Rattle.salvaging.specs.Report.{drop_word, drop_line}
use Rattle.salvaging.proofs.Lengths.{cause-length, drop-length}
use Rattle.salvaging.proofs.report.put_drop.Goals as goal

pub put_bytes-number-requires : goal.put_bytes-number-requires
put_bytes-number-requires c = let a = c.args in omega (arith, drop-length a.i a.cause)

pub put_decimal-blank-requires : goal.put_decimal-blank-requires
put_decimal-blank-requires c = let a = c.args in omega (arith, drop-length a.i a.cause, c.put_bytes-number.ensures.0)

pub put_bytes-word-requires : goal.put_bytes-word-requires
put_bytes-word-requires c = let a = c.args in omega (arith, drop-length a.i a.cause, c.put_bytes-number.ensures.0, c.put_decimal-blank.ensures.0)

pub put_cause-end-requires : goal.put_cause-end-requires
put_cause-end-requires c = let a = c.args in omega (arith, drop-length a.i a.cause, c.put_bytes-number.ensures.0, c.put_decimal-blank.ensures.0, c.put_bytes-word.ensures.0)

pub put_bytes-requires : goal.put_bytes-requires
put_bytes-requires c = let a = c.args in omega (arith, drop-length a.i a.cause, cause-length a.cause, c.put_bytes-number.ensures.0, c.put_decimal-blank.ensures.0, c.put_bytes-word.ensures.0, c.put_cause-end.ensures.end)

pub returns : goal.returns
unfolding drop_line
returns c =
    let a = c.args in
    next (next (next (next (one a.out.now a.at drop_word c.put_bytes-number.ensures) (one _ _ (decimal a.i) c.put_decimal-blank.ensures)) (one _ _ blank c.put_bytes-word.ensures)) c.put_cause-end.ensures) (one _ _ newline c.put_bytes.ensures)
