-- How many numbers curves have. Assumes nothing.
use mathlib.Core.Path.{◌≡◌, refl}
use mathlib.Core.List.{List, [], ◌∷◌}
use Prim.Native.Nat.{◌*◌}
use native.Mathlib.Omega.{arith}
use lib.ListN.{length}
use Rattle.plane.specs.declared.Curve.{Curve}
use Rattle.path.specs.Curves.{eights}

pub length-eights : (cs : List Curve) → length (eights cs) ≡ 8 * length cs
unfolding eights
length-eights [] = refl
length-eights (c ∷ cs) = omega (arith, length-eights cs)
