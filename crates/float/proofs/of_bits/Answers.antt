-- `float::of_bits` meets its contract.
use mathlib.Core.Path.{sym}
use lib.Ieee.{div, of_bits}
use Rattle.float.proofs.Bits.{nan_pattern, no_nan_pattern}
use Rattle.float.proofs.of_bits.Goals as goal

pub returns-then-b-gt9218868437227405312 : goal.returns-then-b-gt9218868437227405312
unfolding div of_bits
returns-then-b-gt9218868437227405312 c = sym (nan_pattern c.args.b c.if-b-gt9218868437227405312.true)

pub float_from_bits-result : goal.float_from_bits-result
float_from_bits-result c = no_nan_pattern c.args.b c.if-b-gt9218868437227405312.false
