-- The sign's bit, and a value compared with itself. Assumes nothing.
use mathlib.Core.Path.{◌≡◌, refl, sym, ap, ◌∙◌, subst}
use Prim.Native.Nat.{ℕ, zero, suc, ◌+◌, ◌*◌, ◌/◌, ◌%◌, ◌^◌, ◌≤◌, ◌<◌}
use native.Mathlib.Omega.{arith}
use mathlib.Core.Bool.{Bool, true, false, not, ◌&&◌, cond, true≢false}
use lib.Dec.{T, leb, ltb, eqb, leb→le, ltb→lt, lt→ltb, not_T, eqb_refl}
use lib.Ieee.{Float, nan, inf, fin, binary64, up, down, eq, neg, fits, is_nan, odd, of_fields, of_bits, to_bits, nan_bits}
use lib.Ieee.Fits.{and_i}
use lib.Ieee.Bits.{is_true, is_false, of_bits-to_bits, nan_bits_is, nan_bits_above}
use Rattle.float.specs.Number.{f1, abs, signum}
use Rattle.float.proofs.Patterns.{of_bits_is}

-- ---- x == x
self : (x : Float) → eq x x ≡ not (is_nan x)
unfolding eq is_nan
self nan = refl
self (inf true) = refl
self (inf false) = refl
self (fin true m e) = is_true (eqb (m * up e * down e) (m * up e * down e) && true) (and_i (eqb (m * up e * down e) (m * up e * down e)) true (eqb_refl (m * up e * down e)) tt)
self (fin false m e) = is_true (eqb (m * up e * down e) (m * up e * down e) && true) (and_i (eqb (m * up e * down e) (m * up e * down e)) true (eqb_refl (m * up e * down e)) tt)

pub number : (x : Float) → eq x x ≡ true → T (not (is_nan x))
number x h = subst T (sym h ∙ self x) tt

pub is_number : (x : Float) → eq x x ≡ true → is_nan x ≡ false
is_number x h = un_not (is_nan x) (sym (self x) ∙ h)
  where
    un_not : (b : Bool) → not b ≡ true → b ≡ false
    un_not true k = absurd (true≢false (sym k))
    un_not false k = refl

pub is_nan_is : (x : Float) → eq x x ≡ false → is_nan x ≡ true
is_nan_is x h = un_not (is_nan x) (sym (self x) ∙ h)
  where
    un_not : (b : Bool) → not b ≡ false → b ≡ true
    un_not true k = refl
    un_not false k = absurd (true≢false k)

pub no_number : (x : Float) → eq x x ≡ false → x ≡ nan
unfolding is_nan
no_number x h = go x (sym (self x) ∙ h)
  where
    go : (x : Float) → not (is_nan x) ≡ false → x ≡ nan
    go nan k = refl
    go (inf s) k = absurd (true≢false k)
    go (fin s m e) k = absurd (true≢false k)

-- ---- the patterns of a NaN: above the infinity's, but for the sign
pub nan_pattern : (b : ℕ) → 2047 * 2 ^ 52 < b % 2 ^ 63 → of_bits binary64 b ≡ nan
nan_pattern b h = is_nan-value (of_bits binary64 b) (sym (nan_bits_is binary64 b) ∙ nan_bits_above binary64 b ∙ is_true _ (lt→ltb _ _ h))
  where
    is_nan-value : (x : Float) → is_nan x ≡ true → x ≡ nan
    is_nan-value nan k = refl
    is_nan-value (inf s) k = absurd (true≢false (sym (unfold is_nan in k)))
    is_nan-value (fin s m e) k = absurd (true≢false (sym (unfold is_nan in k)))

pub no_nan_pattern : (b : ℕ) → b % 2 ^ 63 ≤ 2047 * 2 ^ 52 → T (not (nan_bits binary64 b))
no_nan_pattern b h = not_T (nan_bits binary64 b) (λ t. no (ltb→lt (2047 * 2 ^ 52) (b % 2 ^ 63) (subst T (nan_bits_above binary64 b) t)))
  where
    no : 2047 * 2 ^ 52 < b % 2 ^ 63 → ⊥
    no k = omega arith

-- ---- the sign's bit
odd-abs : (d : ℕ) (s : Bool) (q k l : ℕ) → abs (odd d s q k l) ≡ odd d false q k l
unfolding abs odd
odd-abs d s zero k l = refl
odd-abs d s (suc q) k l = refl

fields_abs : (s : Bool) (x t : ℕ) → abs (of_fields binary64 s x t) ≡ of_fields binary64 false x t
unfolding of_fields
fields_abs s zero t = odd-abs 53 s t 0 1074
fields_abs s (suc x) t = go (eqb (suc x) 2047) (eqb t 0)
  where
    go : (b c : Bool) → abs (cond b (cond c (inf s) nan) (odd 53 s (2 ^ 52 + t) x 1074)) ≡ cond b (cond c (inf false) nan) (odd 53 false (2 ^ 52 + t) x 1074)
    go true true = unfold abs in refl
    go true false = unfold abs in refl
    go false c = odd-abs 53 s (2 ^ 52 + t) x 1074

low : (b : ℕ) → leb (2 ^ 63) (b % 2 ^ 63) ≡ false
low b = is_false (leb (2 ^ 63) (b % 2 ^ 63)) (not_T (leb (2 ^ 63) (b % 2 ^ 63)) (λ t. no (leb→le (2 ^ 63) (b % 2 ^ 63) t)))
  where
    no : 2 ^ 63 ≤ b % 2 ^ 63 → ⊥
    no h = omega arith

clear : (b : ℕ) → of_bits binary64 (b % 2 ^ 63) ≡ abs (of_bits binary64 b)
clear b =
    of_bits_is (b % 2 ^ 63)
    ∙ ap (λ (s : Bool). of_fields binary64 s (b % 2 ^ 63 % 2 ^ 63 / 2 ^ 52) (b % 2 ^ 63 % 2 ^ 52)) (low b)
    ∙ ap (λ (y : ℕ). of_fields binary64 false y (b % 2 ^ 63 % 2 ^ 52)) (field b)
    ∙ ap (λ (y : ℕ). of_fields binary64 false (b % 2 ^ 63 / 2 ^ 52) y) (digits b)
    ∙ sym (ap abs (of_bits_is b) ∙ fields_abs (leb (2 ^ 63) b) (b % 2 ^ 63 / 2 ^ 52) (b % 2 ^ 52))
  where
    field : (b : ℕ) → b % 2 ^ 63 % 2 ^ 63 / 2 ^ 52 ≡ b % 2 ^ 63 / 2 ^ 52
    field b = omega arith

    digits : (b : ℕ) → b % 2 ^ 63 % 2 ^ 52 ≡ b % 2 ^ 52
    digits b = omega arith

pub abs-bits : (x : Float) → T (fits binary64 x) → of_bits binary64 (to_bits binary64 x % 2 ^ 63) ≡ abs x
abs-bits x h = clear (to_bits binary64 x) ∙ ap abs (of_bits-to_bits binary64 x h)

pub abs_no_nan : (x : Float) → T (fits binary64 x) → T (not (is_nan x)) → T (not (nan_bits binary64 (to_bits binary64 x % 2 ^ 63)))
abs_no_nan x h n =
    let b = to_bits binary64 x in
    let e : nan_bits binary64 (b % 2 ^ 63) ≡ is_nan x =
    nan_bits_above binary64 (b % 2 ^ 63) ∙ ap (λ (y : ℕ). ltb (2047 * 2 ^ 52) y) (twice b) ∙ sym (nan_bits_above binary64 b) ∙ nan_bits_is binary64 b ∙ ap is_nan (of_bits-to_bits binary64 x h) in
    subst (λ (y : Bool). T (not y)) (sym e) n
  where
    twice : (b : ℕ) → b % 2 ^ 63 % 2 ^ 63 ≡ b % 2 ^ 63
    twice b = omega arith

pub abs-nan : (x : Float) → x ≡ nan → x ≡ abs x
unfolding abs
abs-nan x h = h ∙ ap abs (sym h)

-- ---- signum
abbrev signed : Bool → Float
signed s = cond s (neg f1) f1

odd-signum : (d : ℕ) (s : Bool) (q k l : ℕ) → signum (odd d s q k l) ≡ signed s
unfolding signum odd
odd-signum d s zero k l = refl
odd-signum d s (suc q) k l = refl

fields_signum : (s : Bool) (x t : ℕ) → T (not (is_nan (of_fields binary64 s x t))) → signum (of_fields binary64 s x t) ≡ signed s
unfolding of_fields is_nan
fields_signum s zero t n = odd-signum 53 s t 0 1074
fields_signum s (suc x) t n = go (eqb (suc x) 2047) (eqb t 0) n
  where
    go : (b c : Bool) → T (not (is_nan (cond b (cond c (inf s) nan) (odd 53 s (2 ^ 52 + t) x 1074)))) → signum (cond b (cond c (inf s) nan) (odd 53 s (2 ^ 52 + t) x 1074)) ≡ signed s
    go true true n = unfold signum in refl
    go true false n = absurd n
    go false c n = odd-signum 53 s (2 ^ 52 + t) x 1074

pub signum-bits : (x : Float) (s : Bool) → T (fits binary64 x) → T (not (is_nan x)) → leb (2 ^ 63) (to_bits binary64 x) ≡ s → signed s ≡ signum x
signum-bits x s h n e =
    let b = to_bits binary64 x in
    let is : x ≡ of_fields binary64 s (b % 2 ^ 63 / 2 ^ 52) (b % 2 ^ 52) = sym (of_bits-to_bits binary64 x h) ∙ of_bits_is b ∙ ap (λ (y : Bool). of_fields binary64 y (b % 2 ^ 63 / 2 ^ 52) (b % 2 ^ 52)) e in
    sym (ap signum is ∙ fields_signum s (b % 2 ^ 63 / 2 ^ 52) (b % 2 ^ 52) (subst (λ (y : Float). T (not (is_nan y))) is n))

pub signum-nan : (x : Float) → x ≡ nan → x ≡ signum x
unfolding signum
signum-nan x h = h ∙ ap signum (sym h)
