-- `float::signum` meets its contract.
use mathlib.Core.Path.{sym, subst}
use mathlib.Core.Bool.{true, false}
use Prim.Native.Nat.{◌^◌}
use native.Mathlib.Nat.{not-le_of_lt}
use lib.Dec.{T, leb, leb→le, not_T, le→leb}
use lib.Ieee.{binary64, fits, to_bits}
use lib.Ieee.Bits.{is_true, is_false}
use Rattle.float.proofs.Bits.{number, no_number, signum-bits, signum-nan}
use Rattle.float.proofs.signum.Goals as goal

pub returns-then-x-lt9223372036854775808 : goal.returns-then-x-lt9223372036854775808
returns-then-x-lt9223372036854775808 c =
    let held : T (fits binary64 c.args.x) = subst T (sym c.well_formed.0.1) tt in
    let x = c.args.x in
    let b = to_bits binary64 x in
    signum-bits x false held (number x c.if-x.true)
    (is_false (leb (2 ^ 63) b) (not_T (leb (2 ^ 63) b) (λ t. not-le_of_lt c.if-x-lt9223372036854775808.true (leb→le (2 ^ 63) b t))))

pub returns-else-x-lt9223372036854775808 : goal.returns-else-x-lt9223372036854775808
returns-else-x-lt9223372036854775808 c =
    let held : T (fits binary64 c.args.x) = subst T (sym c.well_formed.0.1) tt in
    let x = c.args.x in
    let b = to_bits binary64 x in
    signum-bits x true held (number x c.if-x.true) (is_true (leb (2 ^ 63) b) (le→leb (2 ^ 63) b c.if-x-lt9223372036854775808.false))

pub returns-else-x : goal.returns-else-x
returns-else-x c = signum-nan c.args.x (no_number c.args.x c.if-x.false)
