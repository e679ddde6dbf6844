-- `lines::put_piece` meets its contract.
use native.Mathlib.Omega.{arith}
use lib.ListN.{take}
use lib.Seq.{length-take-le}
use Rattle.text.specs.Text.{decimal}
use Rattle.text.proofs.Stores.{one, next}
use Rattle.text.proofs.Digits.{decimal_u32}
use Rattle.lines.specs.Lines.{piece_word, newline, piece_line}
use Rattle.lines.proofs.Turns.{length-numbers}
use Rattle.lines.proofs.put_piece.Goals as goal

pub put_decimal-numbers-requires : goal.put_decimal-numbers-requires
put_decimal-numbers-requires c = omega (arith, decimal_u32 c.args.first c.ranges.first.fits)

pub put_numbers-end-requires : goal.put_numbers-end-requires
put_numbers-end-requires c = (omega (arith, decimal_u32 c.args.first c.ranges.first.fits), omega arith)

pub put_bytes-requires : goal.put_bytes-requires
put_bytes-requires c =
    let p = c.put_numbers-end.ensures in
    let l = length-numbers (take 8 c.args.curve.now) in
    let t = length-take-le 8 c.args.curve.now (omega arith) in
    omega (arith, decimal_u32 c.args.first c.ranges.first.fits, p.end)

pub returns : goal.returns
unfolding piece_line
returns c =
    let p = c.put_numbers-end.ensures in
    let l = length-numbers (take 8 c.args.curve.now) in
    let t = length-take-le 8 c.args.curve.now (omega arith) in (
      omega (arith, decimal_u32 c.args.first c.ranges.first.fits, p.end),
      next (next (next (one c.args.out.now c.args.at piece_word c.put_bytes-number.ensures) (one _ _ (decimal c.args.first) c.put_decimal-numbers.ensures)) p) (one _ _ newline c.put_bytes.ensures),
    )
