-- Zero times a finite number is a zero, and zero times any other is a NaN. So a product that starts with zero is a zero exactly where
-- every factor is finite. Assumes nothing.
use mathlib.Core.Path.{◌≡◌, refl, ap, ◌∙◌}
use mathlib.Core.Bool.{Bool, true, false, ◌&&◌}
use Prim.Native.Nat.compare
use Prim.Native.Nat.{ℕ, zero, suc, ◌-◌, ◌*◌, ◌/◌, ◌^◌, ◌<◌, compare, Ordering}
use native.Mathlib.Nat.{lt_irrefl, zero-mul, zero-div, zero-mod, one-mul, mul-pos}
use lib.IntN.{ℤ, pos}
use lib.Pow.{pow_pos}
use lib.Ieee.{Float, nan, inf, fin, binary64, prec, low, up, down, size, odd, units, round, mul, eq, of_bits, unlike}
use lib.Ieee.Fits.{core, round_is, down_pos}
use Rattle.float.specs.Number.{finite, f0}

above_zero : (u : ℕ) → 0 < u → compare 0 u ≡ Ordering.lt
above_zero zero h = absurd (lt_irrefl 0 h)
above_zero (suc u) h = compare.zero-suc u

units-zero : (s : Bool) (k : ℕ) → units binary64 s 0 k ≡ fin s 0 (pos 0)
unfolding units odd
units-zero s k = rw (zero-mul (2 ^ k)) refl

core-zero : (s : Bool) (den k : ℕ) → 0 < den * 2 ^ k → core binary64 s 0 den k ≡ fin s 0 (pos 0)
core-zero s den k h = rw (zero-div (den * 2 ^ k), zero-mod (den * 2 ^ k), above_zero (den * 2 ^ k) h) (units-zero s k)

round-zero : (s : Bool) (num den : ℕ) → num ≡ 0 → 0 < den → round binary64 s num den ≡ fin s 0 (pos 0)
round-zero s num den e h =
    round_is binary64 s num den
    ∙ ap (λ (x : ℕ). core binary64 s x den (size (num * 2 ^ low binary64 / den) - prec binary64)) (ap (λ (x : ℕ). x * 2 ^ low binary64) e ∙ zero-mul (2 ^ low binary64))
    ∙ core-zero s den (size (num * 2 ^ low binary64 / den) - prec binary64) (mul-pos h (pow_pos _))

times_zero : (k s : Bool) (m : ℕ) (e : ℤ) → mul binary64 (fin k 0 (pos 0)) (fin s m e) ≡ fin (unlike k s) 0 (pos 0)
unfolding mul
times_zero k s m e = round-zero (unlike k s) _ _ (zero-mul (m * up e)) (rw (one-mul (down e)) (down_pos e))

zero-eq : (k : Bool) → eq (fin k 0 (pos 0)) (fin false 0 (pos 0)) ≡ true
unfolding eq
zero-eq true = refl
zero-eq false = refl

one : (k : Bool) (x : Float) → eq (mul binary64 (fin k 0 (pos 0)) x) (fin false 0 (pos 0)) ≡ finite x
unfolding mul eq finite
one k nan = refl
one k (inf s) = refl
one k (fin s m e) = rw (times_zero k s m e) (zero-eq (unlike k s))

two_of : (k : Bool) (x y : Float) → eq (mul binary64 (mul binary64 (fin k 0 (pos 0)) x) y) (fin false 0 (pos 0)) ≡ finite x && finite y
unfolding mul eq finite
two_of k nan y = refl
two_of k (inf s) y = refl
two_of k (fin s m e) y = rw (times_zero k s m e) (one (unlike k s) y)

pub two : (x y : Float) → eq (mul binary64 (mul binary64 f0 x) y) f0 ≡ finite x && finite y
unfolding of_bits
two x y = two_of false x y

pub three : (x y z : Float) → eq (mul binary64 (mul binary64 (mul binary64 f0 x) y) z) f0 ≡ finite x && (finite y && finite z)
unfolding mul eq finite of_bits
three nan y z = refl
three (inf s) y z = refl
three (fin s m e) y z = rw (times_zero false s m e) (two_of (unlike false s) y z)
