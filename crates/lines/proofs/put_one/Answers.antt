-- `lines::put_one` meets its contract.
use native.Mathlib.Omega.{arith}
use Rattle.text.specs.Text.{decimal}
use Rattle.text.proofs.Stores.{one, next}
use Rattle.text.proofs.Digits.{decimal_u64}
use Rattle.lines.specs.Lines.{newline, one_line}
use Rattle.lines.proofs.put_one.Goals as goal

pub put_decimal-end-requires : goal.put_decimal-end-requires
put_decimal-end-requires c = omega (arith, decimal_u64 c.args.a c.ranges.a.fits)

pub put_bytes-requires : goal.put_bytes-requires
put_bytes-requires c = omega (arith, decimal_u64 c.args.a c.ranges.a.fits)

pub returns : goal.returns
unfolding one_line
returns c =
    (omega (arith, decimal_u64 c.args.a c.ranges.a.fits), next (next (one c.args.out.now 0 c.args.word.now c.put_bytes-number.ensures) (one _ _ (decimal c.args.a) c.put_decimal-end.ensures)) (one _ _ newline c.put_bytes.ensures))
