-- `sqrt` where it does not come to digits: by the two tests, x > 0 and x == 0, and by the pattern of an infinity. Assumes nothing.
use mathlib.Core.Path.{◌≡◌, refl, sym, ap, ◌∙◌, subst}
use mathlib.Core.Logic.{inl, inr}
use Prim.Native.Nat.{ℕ, zero, suc, ◌+◌, ◌*◌, ◌/◌, ◌%◌, ◌^◌, ◌≤◌, ◌<◌}
use native.Mathlib.Nat.{eq-zero-or-pos, lt_irrefl, zero-mul, mul-one, mul-pos, zero-lt-suc}
use native.Mathlib.Omega.{arith}
use mathlib.Core.Bool.{Bool, true, false, not, cond, true≢false, false≢true}
use lib.IntN.{ℤ, pos}
use lib.Dec.{T, leb, ltb, eqb, leb→le, lt→ltb, nleb→lt, le→leb, eqb→eq}
use lib.Ieee.{Float, nan, inf, fin, binary64, up, down, fits, is_nan, lt, eq, level, odd, of_fields, of_bits, to_bits}
use lib.Ieee.Fits.{up_pos, and_l}
use lib.Ieee.Bits.{of_bits-to_bits, is_true}
use Rattle.root.specs.Root.{sqrt}

abbrev pub zero! : Float
zero! = fin false 0 (pos 0)

-- ---- what x > 0 says
pub above_no_nan : (x : Float) → lt zero! x ≡ true → T (not (is_nan x))
unfolding lt is_nan
above_no_nan nan h = absurd (false≢true h)
above_no_nan (inf s) h = tt
above_no_nan (fin s m e) h = tt

odd-below : (d q k l : ℕ) → lt zero! (odd d true q k l) ≡ false
unfolding lt odd
odd-below d zero k l = refl
odd-below d (suc q) k l = refl

special_below : (t : Bool) → lt zero! (cond t (inf true) nan) ≡ false
unfolding lt
special_below true = refl
special_below false = refl

fields_below : (x t : ℕ) → lt zero! (of_fields binary64 true x t) ≡ false
unfolding of_fields
fields_below zero t = odd-below 53 t 0 1074
fields_below (suc x) t = go (eqb (suc x) 2047)
  where
    go : (b : Bool) → lt zero! (cond b (cond (eqb t 0) (inf true) nan) (odd 53 true (2 ^ 52 + t) x 1074)) ≡ false
    go true = special_below (eqb t 0)
    go false = odd-below 53 (2 ^ 52 + t) x 1074

signed_below : (b : ℕ) → 2 ^ 63 ≤ b → lt zero! (of_bits binary64 b) ≡ false
unfolding of_bits
signed_below b h = ap (λ (s : Bool). lt zero! (of_fields binary64 s (b % 2 ^ 63 / 2 ^ 52) (b % 2 ^ 52))) (is_true (leb (2 ^ 63) b) (le→leb (2 ^ 63) b h)) ∙ fields_below (b % 2 ^ 63 / 2 ^ 52) (b % 2 ^ 52)

none_below : lt zero! (of_bits binary64 0) ≡ false
unfolding lt of_bits
none_below = refl

pub above-pos : (x : Float) → T (fits binary64 x) → lt zero! x ≡ true → 0 < to_bits binary64 x
above-pos x f h = elim (eq-zero-or-pos (to_bits binary64 x)) [
  | inl z ↦ absurd (false≢true (sym none_below ∙ ap (λ (b : ℕ). lt zero! (of_bits binary64 b)) (sym z) ∙ ap (λ (y : Float). lt zero! y) (of_bits-to_bits binary64 x f) ∙ h))
  | inr p ↦ p
]

-- ---- from the infinity's pattern on
top_field : (t : ℕ) → lt zero! (of_fields binary64 false 2047 t) ≡ true → of_fields binary64 false 2047 t ≡ inf false
unfolding of_fields lt
top_field t = go (eqb t 0)
  where
    go : (b : Bool) → lt zero! (cond b (inf false) nan) ≡ true → cond b (inf false) nan ≡ inf false
    go true h = refl
    go false h = absurd (false≢true h)

pub top_is : (b : ℕ) → 0x7ff0_0000_0000_0000 ≤ b → lt zero! (of_bits binary64 b) ≡ true → of_bits binary64 b ≡ inf false
unfolding of_bits
top_is b h l = go (leb (2 ^ 63) b) refl
  where
    under : (s : Bool) → leb (2 ^ 63) b ≡ s → T (not s) → b < 2 ^ 63
    under s e n = nltb→le' (subst (λ (y : Bool). T (not y)) (sym e) n)
      where
        nltb→le' : T (not (leb (2 ^ 63) b)) → b < 2 ^ 63
        nltb→le' t = nleb→lt (2 ^ 63) b t

    field : b < 2 ^ 63 → b % 2 ^ 63 / 2 ^ 52 ≡ 2047
    field k = omega arith

    go : (s : Bool) → leb (2 ^ 63) b ≡ s → of_bits binary64 b ≡ inf false
    go true e = absurd (false≢true (sym (signed_below b (leb→le (2 ^ 63) b (subst T (sym e) tt))) ∙ l))
    go false e =
        let is : of_bits binary64 b ≡ of_fields binary64 false 2047 (b % 2 ^ 52) =
        ap (λ (s : Bool). of_fields binary64 s (b % 2 ^ 63 / 2 ^ 52) (b % 2 ^ 52)) e ∙ ap (λ (x : ℕ). of_fields binary64 false x (b % 2 ^ 52)) (field (under false e tt)) in
        is ∙ top_field (b % 2 ^ 52) (ap (λ (y : Float). lt zero! y) (sym is) ∙ l)

sqrt-inf : sqrt binary64 (inf false) ≡ inf false
unfolding sqrt
sqrt-inf = refl

pub at_infinity : (x : Float) → T (fits binary64 x) → lt zero! x ≡ true → 0x7ff0_0000_0000_0000 ≤ to_bits binary64 x → x ≡ sqrt binary64 x
at_infinity x f h l =
    let back = of_bits-to_bits binary64 x f in
    let is : x ≡ inf false = sym back ∙ top_is (to_bits binary64 x) l (ap (λ (y : Float). lt zero! y) back ∙ h) in
    is ∙ sym sqrt-inf ∙ ap (sqrt binary64) (sym is)

-- ---- a zero
pub no_zero : (m : ℕ) (e : ℤ) → suc m * up e * 1 ≡ 0 * 1 * down e → ⊥
no_zero m e h = lt_irrefl 0 (subst (λ (x : ℕ). 0 < x) (sym (mul-one (suc m * up e)) ∙ h ∙ zero-mul (down e)) (mul-pos (zero-lt-suc m) (up_pos e)))

pub at_zero : (x : Float) → eq x zero! ≡ true → x ≡ sqrt binary64 x
unfolding eq sqrt
at_zero nan h = absurd (false≢true h)
at_zero (inf s) h = absurd (false≢true h)
at_zero (fin s zero e) h = refl
at_zero (fin s (suc m) e) h = absurd (no_zero m e (eqb→eq (suc m * up e * 1) (0 * 1 * down e) (and_l (eqb (suc m * up e * 1) (0 * 1 * down e)) _ (subst T (sym h) tt))))

-- ---- below zero, or no number
zero-eq : (s : Bool) (e : ℤ) → eq (fin s zero e) zero! ≡ true
unfolding eq
zero-eq s e = (λ i. level s (left i) false (zero-mul (down e) i)) ∙ same s
  where
    left : 0 * up e * 1 ≡ 0
    left = mul-one (0 * up e) ∙ zero-mul (up e)

    same : (s : Bool) → level s 0 false 0 ≡ true
    same true = refl
    same false = refl

pub above-lt : (m : ℕ) (e : ℤ) → lt zero! (fin false (suc m) e) ≡ true
unfolding lt
above-lt m e = is_true (ltb (0 * 1 * down e) (suc m * up e * 1)) (lt→ltb (0 * 1 * down e) (suc m * up e * 1)
    (subst (λ (x : ℕ). x < suc m * up e * 1) (sym (zero-mul (down e))) (subst (λ (x : ℕ). 0 < x) (sym (mul-one (suc m * up e))) (mul-pos (zero-lt-suc m) (up_pos e)))))

pub below-zero : (x : Float) → lt zero! x ≡ false → eq x zero! ≡ false → nan ≡ sqrt binary64 x
unfolding sqrt
below-zero nan h k = refl
below-zero (inf true) h k = refl
below-zero (inf false) h k = absurd (true≢false (unfold lt in h))
below-zero (fin true (suc m) e) h k = refl
below-zero (fin true zero e) h k = absurd (true≢false (sym (zero-eq true e) ∙ k))
below-zero (fin false zero e) h k = absurd (true≢false (sym (zero-eq false e) ∙ k))
below-zero (fin false (suc m) e) h k = absurd (true≢false (sym (above-lt m e) ∙ h))
