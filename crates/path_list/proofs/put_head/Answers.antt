-- `path_list::put_head` meets its contract.
use native.Mathlib.Omega.{arith}
use Rattle.text.specs.Text.{decimal}
use Rattle.text.proofs.Stores.{one}
use Rattle.text.proofs.Digits.{decimal_u64}
use Rattle.path_list.specs.PathList.{path_word}
use Rattle.path_list.proofs.Lines.{put_head_line}
use Rattle.path_list.proofs.put_head.Goals as goal

pub put_decimal-word-requires : goal.put_decimal-word-requires
put_decimal-word-requires c = omega (arith, decimal_u64 c.args.k c.ranges.k.fits)

pub put_closed-requires : goal.put_closed-requires
put_closed-requires c = omega (arith, decimal_u64 c.args.k c.ranges.k.fits)

pub returns : goal.returns
returns c = (omega (arith, decimal_u64 c.args.k c.ranges.k.fits), put_head_line c.args.k c.args.closed (one _ _ path_word c.put_bytes-number.ensures) (one _ _ (decimal c.args.k) c.put_decimal-word.ensures) c.put_closed.ensures.1)
