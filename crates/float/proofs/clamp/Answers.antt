-- `float::clamp` meets its contract.
use mathlib.Core.Path.{sym, subst}
use lib.Dec.{T}
use lib.Ieee.{binary64, fits}
use Rattle.float.proofs.Bits.{number, no_number}
use Rattle.float.proofs.Unit.{under-unit, over-unit, in_unit, nan_stays}
use Rattle.float.proofs.clamp.Goals as goal

pub returns-then-b-gt9223372036854775808 : goal.returns-then-b-gt9223372036854775808
returns-then-b-gt9223372036854775808 c =
    let held : T (fits binary64 c.args.x) = subst T (sym c.well_formed.0.1) tt in
    let x = c.args.x in
    under-unit x held (number x c.if-x.true) c.if-b-gt9223372036854775808.true

pub returns-then-b-gt4607182418800017408 : goal.returns-then-b-gt4607182418800017408
returns-then-b-gt4607182418800017408 c =
    let held : T (fits binary64 c.args.x) = subst T (sym c.well_formed.0.1) tt in
    let x = c.args.x in
    over-unit x held (number x c.if-x.true) c.if-b-gt9223372036854775808.false c.if-b-gt4607182418800017408.true

pub returns-else-b-gt4607182418800017408 : goal.returns-else-b-gt4607182418800017408
returns-else-b-gt4607182418800017408 c =
    let held : T (fits binary64 c.args.x) = subst T (sym c.well_formed.0.1) tt in
    let x = c.args.x in
    in_unit x held (number x c.if-x.true) c.if-b-gt9223372036854775808.false c.if-b-gt4607182418800017408.false

pub returns-else-x : goal.returns-else-x
returns-else-x c = nan_stays c.args.x (no_number c.args.x c.if-x.false)
