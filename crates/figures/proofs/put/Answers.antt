-- `figures::put` meets its contract.
use Prim.Native.Nat.{◌/◌}
use native.Mathlib.Omega.{arith}
use Rattle.text.specs.Text.{decimal}
use Rattle.text.proofs.Stores.{one}
use Rattle.figures.proofs.Places.{length-text, put-parts}
use Rattle.figures.proofs.put.Goals as goal

pub put_sign-whole-requires : goal.put_sign-whole-requires
put_sign-whole-requires c = omega (arith, length-text c.args.d)

pub put_decimal-places-requires : goal.put_decimal-places-requires
put_decimal-places-requires c = omega (arith, length-text c.args.d, c.put_sign-whole.ensures.end)

pub put_places-requires : goal.put_places-requires
put_places-requires c =
    (omega arith, omega (arith, length-text c.args.d, c.put_sign-whole.ensures.end, c.put_decimal-places.ensures.0))

pub returns : goal.returns
returns c =
    let d = c.args.d in
    put-parts d c.put_sign-whole.ensures (one _ _ (decimal (d.thousandths / 1000)) c.put_decimal-places.ensures) c.put_places.ensures
