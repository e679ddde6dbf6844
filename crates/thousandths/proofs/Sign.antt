-- What a number is written as, by its value in units; and its sign. Assumes nothing.
use mathlib.Core.Path.{◌≡◌, refl, ap, ◌∙◌}
use mathlib.Core.Bool.{Bool, true, false, not, ◌&&◌}
use Prim.Native.Nat.{ℕ, zero, suc, ◌+◌, ◌*◌, ◌<◌, zero-le}
use native.Mathlib.Nat.{zero-mul, mul-pos, zero-lt-suc, le_trans, le_of_eq}
use native.Mathlib.Omega.{arith}
use lib.Dec.{T, ltb}
use lib.IntN.{ℤ}
use lib.Ieee.{Float, nan, inf, fin, up, down, lt, is_nan}
use lib.Ieee.Fits.{up_pos, down_pos}
use lib.Ieee.Exact.{HasValue}
use borrow.Author.Tests.{le-ltb, lt-ltb}
use Rattle.float.specs.Number.{finite, abs, f0}
use Rattle.float.proofs.Truth.{never, and-false}
use Rattle.numbers.specs.Words.{zer}
use Rattle.numbers.proofs.Zeros.{f0_is}
use Rattle.path.specs.Decimals.{signed, rounded, written_of}
use Rattle.path.specs.declared.Decimal.{Decimal}
use Rattle.thousandths.proofs.Halves.{rounded_is, rounded_same}

-- ---- by the value
pub value_written : (x : Float) (s : Bool) (u c : ℕ) → 0 < c → HasValue x s u c → written_of x ≡ signed s (rounded (1000 * u) c)
unfolding written_of
value_written nan s u c C v = absurd v
value_written (inf t) s u c C v = absurd v
value_written (fin t m e) s u c C v =
    ap (λ (b : Bool). signed b (rounded (1000 * (m * up e)) (down e))) v.0
    ∙ ap (signed s) (rounded_same (1000 * (m * up e)) (down e) (1000 * u) c (down_pos e) C (thousand (m * up e) c u (down e) v.1))
  where
    thousand : (a c u d : ℕ) → a * c ≡ u * d → 1000 * a * c ≡ 1000 * u * d
    thousand a c u d h = omega arith

pub abs-written : (x : Float) → (written_of (abs x)).thousandths ≡ (written_of x).thousandths
unfolding written_of abs
abs-written nan = refl
abs-written (inf s) = refl
abs-written (fin s m e) = refl

-- ---- the sign
pub no_nan : (x : Float) → finite x ≡ true → T (not (is_nan x))
unfolding finite is_nan
no_nan nan h = never h
no_nan (inf s) h = never h
no_nan (fin s m e) h = tt

none_of : (d : ℕ) → 0 < d → rounded 0 d ≡ 0
none_of d D = rounded_is 0 d 0 D (omega arith) (omega arith)

minus_none : (e : ℤ) → lt (fin true 0 e) (zer false) && ltb 0 (rounded (1000 * (0 * up e)) (down e)) ≡ ltb 0 (rounded (1000 * (0 * up e)) (down e))
minus_none e = rw (zero-mul (up e), none_of (down e) (down_pos e)) (and-false (lt (fin true 0 e) (zer false)))

minus_is : (m : ℕ) (e : ℤ) → lt (fin true m e) (zer false) && ltb 0 (rounded (1000 * (m * up e)) (down e)) ≡ ltb 0 (rounded (1000 * (m * up e)) (down e))
unfolding lt
minus_is zero e = minus_none e
minus_is (suc m) e = rw (lt-ltb 0 (suc m * up e * 1 + 0 * 1 * down e) (more (suc m * up e) (0 * 1 * down e) (mul-pos (zero-lt-suc m) (up_pos e))))
  where
    more : (a b : ℕ) → 0 < a → 0 < a * 1 + b
    more a b h = omega arith

plus_is : (m : ℕ) (e : ℤ) → lt (fin false m e) (zer false) ≡ false
unfolding lt
plus_is m e = le-ltb (m * up e * 1) (0 * 1 * down e) (le_trans (le_of_eq (zero-mul (down e))) zero-le)

sign_is : (x : Float) → finite x ≡ true → lt x (zer false) && ltb 0 (written_of x).thousandths ≡ (written_of x).negative
unfolding written_of finite
sign_is nan h = never h
sign_is (inf s) h = never h
sign_is (fin true m e) h = minus_is m e
sign_is (fin false m e) h = rw (plus_is m e)

pub written_by : (x : Float) (t : ℕ) → finite x ≡ true → t ≡ (written_of x).thousandths → ◌≡◌ {A = Decimal} (record { negative = lt x f0 && ltb 0 t; thousandths = t }) (written_of x)
written_by x t h e =
    ap (λ (u : ℕ). record { negative = lt x f0 && ltb 0 u; thousandths = u }) e
    ∙ ap (λ (z : Float). record { negative = lt x z && ltb 0 (written_of x).thousandths; thousandths = (written_of x).thousandths }) f0_is
    ∙ ap (λ (b : Bool). record { negative = b; thousandths = (written_of x).thousandths }) (sign_is x h)
