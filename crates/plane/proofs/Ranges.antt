-- The range of a number by one comparison, and what a coordinate is known to be. Assumes nothing.
use mathlib.Core.Path.{◌≡◌, refl}
use mathlib.Core.Bool.{true}
use lib.Ieee.{Float, nan, inf, fin, binary64, fits, le, lt, eq}
use Rattle.float.specs.Number.{finite, abs}
use Rattle.float.proofs.Truth.{never, and_left, and_right}
use Rattle.plane.specs.Range.{million, up_to, coordinate}

-- a NaN or an infinity is not at most m, so the finite test adds nothing
pub by_size : (m x : Float) → finite m ≡ true → le (abs x) m ≡ up_to m x
unfolding finite abs le lt eq
by_size nan x h = never h
by_size (inf s) x h = never h
by_size (fin s m e) nan h = refl
by_size (fin s m e) (inf t) h = refl
by_size (fin s m e) (fin t n d) h = refl

-- a coordinate is a value of an `f64`
pub coordinate-fits : (x : Float) → coordinate x ≡ true → fits binary64 x ≡ true
unfolding coordinate
coordinate-fits x h = and_left (fits binary64 x) (up_to million x) h

-- and at most a million in magnitude
pub coordinate-size : (x : Float) → coordinate x ≡ true → up_to million x ≡ true
unfolding coordinate
coordinate-size x h = and_right (fits binary64 x) (up_to million x) h
