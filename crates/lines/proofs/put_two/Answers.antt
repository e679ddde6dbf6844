-- `lines::put_two` meets its contract.
use native.Mathlib.Omega.{arith}
use Rattle.text.proofs.Digits.{decimal_u64}
use Rattle.lines.specs.Lines.{blank, two_line}
use Rattle.lines.proofs.Turns.{length-pair}
use Rattle.lines.proofs.put_two.Goals as goal

pub put_pair-requires : goal.put_pair-requires
put_pair-requires c = omega (arith, length-pair c.args.word.now c.args.a blank c.args.b, decimal_u64 c.args.a c.ranges.a.fits, decimal_u64 c.args.b c.ranges.b.fits)

pub returns : goal.returns
unfolding two_line
returns c = (omega (arith, c.put_pair.ensures.end, length-pair c.args.word.now c.args.a blank c.args.b, decimal_u64 c.args.a c.ranges.a.fits, decimal_u64 c.args.b c.ranges.b.fits), c.put_pair.ensures)
