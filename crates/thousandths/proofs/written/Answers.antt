-- `thousandths::written` meets its contract.
use mathlib.Core.Path.{sym, ap, ◌∙◌, subst}
use lib.Dec.{T}
use lib.Ieee.{binary64, fits}
use Rattle.float.proofs.Bits.{abs-bits}
use Rattle.path.specs.Decimals.{written_of}
use Rattle.thousandths.proofs.Pattern.{in_range_is}
use Rattle.thousandths.proofs.Sign.{no_nan, abs-written, written_by}
use Rattle.thousandths.proofs.written.Goals as goal

pub float_to_bits-x : goal.float_to_bits-x
float_to_bits-x c = no_nan c.args.x c.requires.0

pub thousandths_of-t-requires : goal.thousandths_of-t-requires
thousandths_of-t-requires c =
    let held : T (fits binary64 c.args.x) = subst T (sym c.well_formed.0.1) tt in
    in_range_is c.args.x held c.requires.0 c.requires.1

pub returns : goal.returns
returns c =
    let held : T (fits binary64 c.args.x) = subst T (sym c.well_formed.0.1) tt in
    let x = c.args.x in
    written_by x c.thousandths_of-t.result c.requires.0
    (c.thousandths_of-t.ensures ∙ ap (λ z. (written_of z).thousandths) (abs-bits x held) ∙ abs-written x)
