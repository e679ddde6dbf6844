-- `float::abs` meets its contract.
use mathlib.Core.Path.{sym, subst}
use lib.Dec.{T}
use lib.Ieee.{binary64, fits}
use Rattle.float.proofs.Bits.{number, no_number, abs-bits, abs_no_nan, abs-nan}
use Rattle.float.proofs.abs.Goals as goal

pub float_from_bits-result : goal.float_from_bits-result
float_from_bits-result c =
    let held : T (fits binary64 c.args.x) = subst T (sym c.well_formed.0.1) tt in
    abs_no_nan c.args.x held (number c.args.x c.if-x.true)

pub returns-then-x : goal.returns-then-x
returns-then-x c =
    let held : T (fits binary64 c.args.x) = subst T (sym c.well_formed.0.1) tt in
    abs-bits c.args.x held

pub returns-else-x : goal.returns-else-x
returns-else-x c = abs-nan c.args.x (no_number c.args.x c.if-x.false)
