-- `figures::length_of` meets its contract.
use native.Mathlib.Omega.{arith}
use Rattle.figures.proofs.Places.{length-text}
use Rattle.figures.proofs.length_of.Goals as goal

pub returns : goal.returns
returns c =
    let e = length-text c.args.d in
    let whole = c.decimal_len.ensures in
    let sign = c.sign_length.ensures in
    (omega (arith, c.places_length.ensures.0, whole.1, sign.0), omega (arith, c.places_length.ensures.1, whole.0, sign.1))
