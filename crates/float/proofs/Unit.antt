-- A number below 0, in 0..1 or above 1, by its bit pattern. Assumes nothing.
use mathlib.Core.Path.{◌≡◌, refl, sym, ap, ◌∙◌, subst}
use mathlib.Core.Logic.{inl, inr}
use Prim.Native.Nat.{ℕ, zero, suc, ◌+◌, ◌-◌, ◌*◌, ◌/◌, ◌%◌, ◌^◌, ◌≤◌, ◌<◌}
use native.Mathlib.Nat.{le_trans, le_of_eq, lt_of_lt_of_le, eq-or-lt_of_le, zero-mul, mul-pos, mul_comm, mul-le-mul_left, mul-le-mul_right, mul-le-mul, mul-lt-mul_of_pos_right, lt_of_mul-lt-mul_right, le_of_mul-le-mul_right}
use native.Mathlib.Omega.{arith}
use mathlib.Core.Bool.{Bool, true, false, not, true≢false, false≢true}
use lib.Dec.{T, leb, lit<, lit≤}
use lib.Pow.{pow_pos, pow_mono}
use lib.Ieee.{Float, nan, inf, fin, binary64, up, down, lt, fits, is_nan, of_fields, of_bits, to_bits}
use lib.Ieee.Bits.{is_false, of_bits-to_bits, to_bits-lt, nan_bits_is, nan_bits_above}
use lib.Ieee.Fits.{down_pos}
use lib.Ieee.Exact.{HasValue, odd_sign}
use borrow.Author.Tests.{ltb-false, lt-ltb, le-ltb, le-leb, leb-true, leb-false}
use Rattle.float.specs.Number.{f0, f1, clamp01}
use Rattle.float.proofs.Truth.{picked, passed}
use Rattle.float.proofs.Patterns.{signed, under_ones, at_zero, normal_value, low_value}

-- ---- by the value in units: 1 is 2 ^ 1074 of them
below-zero : (x : Float) (u : ℕ) → 0 < u → HasValue x true u (2 ^ 1074) → lt x f0 ≡ true
unfolding lt of_bits
below-zero nan u p v = absurd v
below-zero (inf s) u p v = absurd v
below-zero (fin true m e) u p v = lt-ltb 0 (m * up e * 1 + 0 * 1 * down e) (more (m * up e) (0 * 1 * down e) some)
  where
    more : (a b : ℕ) → 0 < a → 0 < a * 1 + b
    more a b h = omega arith

    some : 0 < m * up e
    some = lt_of_mul-lt-mul_right (2 ^ 1074) (subst (λ (y : ℕ). 0 < y) (sym v.1) (mul-pos p (down_pos e)))
below-zero (fin false m e) u p v = absurd (false≢true v.0)

not_below : (x : Float) (u : ℕ) → HasValue x false u (2 ^ 1074) → lt x f0 ≡ false
unfolding lt of_bits
not_below nan u v = absurd v
not_below (inf s) u v = absurd v
not_below (fin true m e) u v = absurd (true≢false v.0)
not_below (fin false m e) u v = le-ltb (m * up e * 1) (0 * 1 * down e) (least (m * up e * 1) (zero-mul (down e)))
  where
    least : (a : ℕ) {b : ℕ} → b ≡ 0 → b ≤ a
    least a h = omega arith

above_one : (x : Float) (u : ℕ) → 2 ^ 1074 < u → HasValue x false u (2 ^ 1074) → lt f1 x ≡ true
unfolding lt of_bits
above_one nan u p v = absurd v
above_one (inf s) u p v = absurd v
above_one (fin true m e) u p v = absurd (true≢false v.0)
above_one (fin false m e) u p v = lt-ltb (1 * 1 * down e) (m * up e * 1) (ones (down e) (m * up e) less)
  where
    ones : (a b : ℕ) → a < b → 1 * 1 * a < b * 1
    ones a b h = omega arith

    less : down e < m * up e
    less = lt_of_mul-lt-mul_right (2 ^ 1074) (subst (λ (y : ℕ). down e * 2 ^ 1074 < y) (sym v.1) (subst (λ (y : ℕ). y < u * down e) (mul_comm (2 ^ 1074) (down e)) (mul-lt-mul_of_pos_right p (down_pos e))))

not_above : (x : Float) (u : ℕ) → u ≤ 2 ^ 1074 → HasValue x false u (2 ^ 1074) → lt f1 x ≡ false
unfolding lt of_bits
not_above nan u p v = absurd v
not_above (inf s) u p v = absurd v
not_above (fin true m e) u p v = absurd (true≢false v.0)
not_above (fin false m e) u p v = le-ltb (1 * 1 * down e) (m * up e * 1) (ones (down e) (m * up e) less)
  where
    ones : (a b : ℕ) → b ≤ a → b * 1 ≤ 1 * 1 * a
    ones a b h = omega arith

    less : m * up e ≤ down e
    less = le_of_mul-le-mul_right (subst (λ (y : ℕ). y ≤ down e * 2 ^ 1074) (sym v.1) (le_trans (mul-le-mul_right (down e) p) (le_of_eq (mul_comm (2 ^ 1074) (down e))))) (pow_pos 1074)

-- ---- by the pattern
fields_below : (x t : ℕ) → 0 < x + t → x < 2047 → lt (of_fields binary64 true x t) f0 ≡ true
fields_below zero t p h = subst (λ (y : Float). lt y f0 ≡ true) (sym (at_zero true t)) (below-zero _ (t * 2 ^ 0) (omega arith) (odd_sign 53 true t 0 1074))
fields_below (suc x) t p h = subst (λ (y : Float). lt y f0 ≡ true) (sym (under_ones true t x h)) (below-zero _ ((2 ^ 52 + t) * 2 ^ x) (mul-pos (omega arith) (pow_pos x)) (odd_sign 53 true (2 ^ 52 + t) x 1074))

-- the infinities, and 1 itself
minus_infinity : lt (of_bits binary64 0xfff0_0000_0000_0000) f0 ≡ true
unfolding lt of_bits
minus_infinity = refl

infinity_not_below : lt (of_bits binary64 0x7ff0_0000_0000_0000) f0 ≡ false
unfolding lt of_bits
infinity_not_below = refl

infinity_above : lt f1 (of_bits binary64 0x7ff0_0000_0000_0000) ≡ true
unfolding lt of_bits
infinity_above = refl

one_not_above : lt f1 f1 ≡ false
unfolding lt of_bits
one_not_above = refl

-- the sign's bit and more, up to minus infinity
pattern_below : (b : ℕ) → 2 ^ 63 < b → b ≤ 0xfff0_0000_0000_0000 → lt (of_bits binary64 b) f0 ≡ true
pattern_below b h k = elim (eq-or-lt_of_le k) [
  | inl e ↦ subst (λ (y : ℕ). lt (of_bits binary64 y) f0 ≡ true) (sym e) minus_infinity
  | inr l ↦ subst (λ (y : Float). lt y f0 ≡ true) (sym (signed true b (le-leb (2 ^ 63) b (omega arith)))) (fields_below _ _ (omega arith) (omega arith))
]

-- no sign, up to infinity
pattern_not_below : (b : ℕ) → b ≤ 0x7ff0_0000_0000_0000 → lt (of_bits binary64 b) f0 ≡ false
pattern_not_below b h = elim (eq-or-lt_of_le h) [ inl e ↦ subst (λ (y : ℕ). lt (of_bits binary64 y) f0 ≡ false) (sym e) infinity_not_below | inr l ↦ go (leb (2 ^ 52) b) refl l ]
  where
    go : (c : Bool) → leb (2 ^ 52) b ≡ c → b < 0x7ff0_0000_0000_0000 → lt (of_bits binary64 b) f0 ≡ false
    go true e l = not_below _ _ (normal_value b (leb-true (2 ^ 52) b e) l)
    go false e l = not_below _ _ (low_value b (leb-false (2 ^ 52) b e))

-- above the pattern of 1
pattern_above : (b : ℕ) → 0x3ff0_0000_0000_0000 < b → b ≤ 0x7ff0_0000_0000_0000 → lt f1 (of_bits binary64 b) ≡ true
pattern_above b h k = elim (eq-or-lt_of_le k) [
  | inl e ↦ subst (λ (y : ℕ). lt f1 (of_bits binary64 y) ≡ true) (sym e) infinity_above
  | inr l ↦ above_one _ _ (units (b / 2 ^ 52 - 1) (b % 2 ^ 52) (omega arith) (omega arith)) (normal_value b (omega arith) l)
]
  where
    units : (k t : ℕ) → 1022 * 2 ^ 52 < k * 2 ^ 52 + t → t < 2 ^ 52 → 2 ^ 1074 < (2 ^ 52 + t) * 2 ^ k
    units k zero h l = lt_of_lt_of_le (lit< tt) (mul-le-mul_left (2 ^ 52) (pow_mono {i = 1023} (omega arith)))
    units k (suc t) h l = lt_of_lt_of_le (mul-lt-mul_of_pos_right {m = 2 ^ 52} {n = 2 ^ 52 + suc t} (omega arith) (pow_pos 1022)) (mul-le-mul_left (2 ^ 52 + suc t) (pow_mono {i = 1022} (omega arith)))

-- up to the pattern of 1
pattern_not_above : (b : ℕ) → b ≤ 0x3ff0_0000_0000_0000 → lt f1 (of_bits binary64 b) ≡ false
pattern_not_above b h = elim (eq-or-lt_of_le h) [ inl e ↦ subst (λ (y : ℕ). lt f1 (of_bits binary64 y) ≡ false) (sym e) one_not_above | inr l ↦ go (leb (2 ^ 52) b) refl l ]
  where
    go : (c : Bool) → leb (2 ^ 52) b ≡ c → b < 0x3ff0_0000_0000_0000 → lt f1 (of_bits binary64 b) ≡ false
    go true e l = not_above _ _ (mul-le-mul {n₂ = 2 ^ 53} (omega arith) (pow_mono {j = 1021} (omega arith))) (normal_value b (leb-true (2 ^ 52) b e) (omega arith))
    go false e l = not_above _ _ (le_trans {m = 2 ^ 52} (omega (arith, leb-false (2 ^ 52) b e)) (lit≤ tt)) (low_value b (leb-false (2 ^ 52) b e))

-- minus zero is neither
minus-zero : clamp01 (of_bits binary64 (2 ^ 63)) ≡ of_bits binary64 (2 ^ 63)
unfolding clamp01 lt of_bits
minus-zero = refl

-- ---- `clamp01` of a pattern that is no NaN's
clamp-below : (b : ℕ) → 2 ^ 63 < b → b ≤ 0xfff0_0000_0000_0000 → f0 ≡ clamp01 (of_bits binary64 b)
unfolding clamp01
clamp-below b h k = picked _ _ (pattern_below b h k)

clamp-above : (b : ℕ) → 0x3ff0_0000_0000_0000 < b → b ≤ 0x7ff0_0000_0000_0000 → f1 ≡ clamp01 (of_bits binary64 b)
unfolding clamp01
clamp-above b h k = picked _ _ (pattern_above b h k) ∙ passed _ _ (pattern_not_below b k)

clamp_in : (b : ℕ) → b ≤ 0x3ff0_0000_0000_0000 → of_bits binary64 b ≡ clamp01 (of_bits binary64 b)
unfolding clamp01
clamp_in b h = passed _ _ (pattern_not_above b h) ∙ passed _ _ (pattern_not_below b (omega arith))

-- ---- of a number that the format holds
module _ (x : Float) (held : T (fits binary64 x)) (number : T (not (is_nan x))) where
  back : of_bits binary64 (to_bits binary64 x) ≡ x
  back = of_bits-to_bits binary64 x held

  top : to_bits binary64 x % 2 ^ 63 ≤ 0x7ff0_0000_0000_0000
  top = ltb-false _ _ (sym (nan_bits_above binary64 (to_bits binary64 x)) ∙ nan_bits_is binary64 (to_bits binary64 x) ∙ ap is_nan back ∙ is_false (is_nan x) number)

  pub under-unit : 2 ^ 63 < to_bits binary64 x → f0 ≡ clamp01 x
  under-unit h = clamp-below (to_bits binary64 x) h (omega (arith, top, to_bits-lt binary64 x held)) ∙ ap clamp01 back

  pub over-unit : to_bits binary64 x ≤ 2 ^ 63 → 0x3ff0_0000_0000_0000 < to_bits binary64 x % 2 ^ 63 → f1 ≡ clamp01 x
  over-unit h k = clamp-above (to_bits binary64 x) (omega arith) (omega (arith, top)) ∙ ap clamp01 back

  pub in_unit : to_bits binary64 x ≤ 2 ^ 63 → to_bits binary64 x % 2 ^ 63 ≤ 0x3ff0_0000_0000_0000 → x ≡ clamp01 x
  in_unit h k = elim (eq-or-lt_of_le h) [
    | inl e ↦ let is : x ≡ of_bits binary64 (2 ^ 63) = sym back ∙ ap (of_bits binary64) e in is ∙ sym minus-zero ∙ ap clamp01 (sym is)
    | inr l ↦ sym back ∙ clamp_in (to_bits binary64 x) (omega arith) ∙ ap clamp01 back
  ]

pub nan_stays : (x : Float) → x ≡ nan → x ≡ clamp01 x
unfolding clamp01 lt of_bits
nan_stays x h = h ∙ ap clamp01 (sym h)
