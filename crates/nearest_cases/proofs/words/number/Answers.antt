-- `nearest_cases::words::number` meets its contract.
use Rattle.std.proofs.Common.{◌*◌, ◌%◌, ◌^◌, Bool, not, T, ltb, sym, subst, not-le_of_lt, ltb→lt}
use lib.Dec.{not_T}
use lib.Ieee.{binary64}
use lib.Ieee.Bits.{nan_bits_above}
use Rattle.nearest_cases.proofs.words.number.Goals as goal

pub float_from_bits-result : goal.float_from_bits-result
float_from_bits-result c =
    let w = c.args.w in
    subst (λ (b : Bool). T (not b)) (sym (nan_bits_above binary64 w))
    (not_T (ltb (2047 * 2 ^ 52) (w % 2 ^ 63)) (λ t. not-le_of_lt (ltb→lt (2047 * 2 ^ 52) (w % 2 ^ 63) t) c.if-w-le9218868437227405312.true))
