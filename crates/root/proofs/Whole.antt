-- The root of a value above zero, from the whole root of its digits: what the code computes is `sqrt`. Assumes nothing.
use mathlib.Core.Path.{◌≡◌, refl, sym, ap, ◌∙◌, subst}
use Prim.Native.Nat.{ℕ, zero, suc, ◌+◌, ◌-◌, ◌*◌, ◌/◌, ◌%◌, ◌^◌, ◌≤◌, ◌<◌}
use native.Mathlib.Nat.{le_trans, le_of_eq, lt_of_lt_of_le, lt_irrefl, zero-mul, mul-pos, mul-div_cancel, mul-mul-mul_comm, mul_comm, mul_assoc, eq_of_mul-eq-mul_right, mul-le-mul_right, mod-eq_of_lt}
use native.Mathlib.Omega.{arith}
use mathlib.Core.Bool.{true, false, not, true≢false}
use lib.Dec.{T, not_T, ltb→lt, lit<}
use lib.Pow.{pow-add, pow_pos, pow_mono, shl_lt}
use lib.Ieee.{Float, nan, inf, fin, binary64, up, down, round, of_bits, nan_bits}
use lib.Ieee.Bits.{nan_bits_above}
use lib.Ieee.Fits.{down_pos}
use lib.Ieee.Exact.{HasValue}
use Rattle.root.specs.Root.{IsRoot, root, twice_root, sqrt}
use Rattle.root.proofs.Root.{root-root, root-le, root_unique, root_scaled, twice_root-half, twice_root-even}
use Rattle.root.proofs.Round.{round-half}
use Rattle.root.proofs.Pattern.{units-bits}

-- ---- `sqrt` of u units
pub sqrt-units : (x : Float) (u : ℕ) → HasValue x false u (2 ^ 1074) → 0 < u → sqrt binary64 x ≡ round binary64 false (twice_root (u * 2 ^ 1074)) (2 * 2 ^ 1074)
unfolding sqrt
sqrt-units nan u v U = absurd v
sqrt-units (inf s) u v U = absurd v
sqrt-units (fin true m e) u v U = absurd (true≢false v.0)
sqrt-units (fin false zero e) u v U = absurd (lt_irrefl 0 (subst (λ (x : ℕ). 0 < x) (sym v.1 ∙ ap (λ (x : ℕ). x * 2 ^ 1074) (zero-mul (up e)) ∙ zero-mul (2 ^ 1074)) (mul-pos U (down_pos e))))
sqrt-units (fin false (suc m) e) u v U =
    ap (λ (x : ℕ). round binary64 false (twice_root (x * 2 ^ 1074)) (2 * 2 ^ 1074)) (ap (λ (x : ℕ). x / down e) v.1 ∙ mul-div_cancel u (down_pos e))

-- ---- the digits, with an even number of places after them
pub digits_lo : (m b : ℕ) → m ≤ m * 2 ^ b
digits_lo m b = subst (λ (x : ℕ). x ≤ m * 2 ^ b) (one m) (le_trans (le_of_eq (mul_comm m 1)) (le_trans (mul-le-mul_right m (pow_pos b)) (le_of_eq (mul_comm (2 ^ b) m))))
  where
    one : (m : ℕ) → m * 1 ≡ m
    one m = omega arith

pub digits_hi : (m b : ℕ) → b < 2 → m < 2 ^ 53 → m * 2 ^ b ≤ 2 ^ 54 - 2
digits_hi m zero h k = omega arith
digits_hi m (suc zero) h k = omega arith
digits_hi m (suc (suc b)) h k = absurd (no b h)
  where
    no : (b : ℕ) → suc (suc b) < 2 → ⊥
    no b h = omega arith

pub lead : (a q : ℕ) → 2 ^ 52 ≤ a → IsRoot (a * 2 ^ 54) q → 2 ^ 53 ≤ q
lead a q h r = root-le (a * 2 ^ 54) (2 ^ 53) q (omega arith) r.upper

pub short : (a q : ℕ) → a ≤ 2 ^ 54 - 2 → IsRoot (a * 2 ^ 54) q → q ≤ 2 ^ 54 - 2
short a q h r = root-le (a * 2 ^ 54) q (2 ^ 54 - 2) r.lower (omega arith)

-- ---- the number of units, squared
pub even-places : (u m b h p k : ℕ) → u * 2 ^ 52 ≡ m * k → k ≡ b * (h * h) → p ≡ h * 2 ^ 484 → u * 2 ^ 1074 ≡ m * b * 2 ^ 54 * (p * p)
even-places u m b h p k e f g = subst (λ (x : ℕ). u * 2 ^ 1074 ≡ m * b * 2 ^ 54 * (x * x)) (sym g) (go (2 ^ 52) (2 ^ 1022) (2 ^ 54) (2 ^ 484) refl (e ∙ ap (λ (x : ℕ). m * x) f))
  where
    regroup : (C D : ℕ) → m * (b * (h * h)) * (C * (D * D)) ≡ m * b * C * (h * D * (h * D))
    regroup C D = omega arith

    go : (A B C D : ℕ) → B ≡ C * (D * D) → u * A ≡ m * (b * (h * h)) → u * (A * B) ≡ m * b * C * (h * D * (h * D))
    go A B C D c w = sym (mul_assoc u A B) ∙ ap (λ (x : ℕ). x * B) w ∙ ap (λ (x : ℕ). m * (b * (h * h)) * x) c ∙ regroup C D

pub halves : (i : ℕ) → 2 ^ i ≡ 2 ^ (i % 2) * (2 ^ (i / 2) * 2 ^ (i / 2))
halves i = ap (λ (x : ℕ). 2 ^ x) (parts i) ∙ pow-add 2 (i % 2) (i / 2 + i / 2) ∙ ap (λ (x : ℕ). 2 ^ (i % 2) * x) (pow-add 2 (i / 2) (i / 2))
  where
    parts : (i : ℕ) → i ≡ i % 2 + (i / 2 + i / 2)
    parts i = omega arith

-- ---- no tie: the square of an odd number is odd
pub odd_square : (q a : ℕ) → q % 2 ≡ 1 → q * q ≡ a * 2 ^ 54 → ⊥
odd_square q a o e = no (q / 2) (subst (λ (x : ℕ). x * x ≡ a * 2 ^ 54) (is q o) e)
  where
    is : (q : ℕ) → q % 2 ≡ 1 → q ≡ 2 * (q / 2) + 1
    is q o = omega arith

    no : (h : ℕ) → (2 * h + 1) * (2 * h + 1) ≡ a * 2 ^ 54 → ⊥
    no h e = omega arith

no_tie : (n a q p : ℕ) → 0 < p → n ≡ a * 2 ^ 54 * (p * p) → q % 2 ≡ 1 → twice_root n ≡ q * (2 * p) → ⊥
no_tie n a q p P N o t =
    let even : twice_root n % 2 ≡ 0 = ap (λ (x : ℕ). x % 2) t ∙ twos q p in
    let is : root n ≡ q * p = sym (twice_root-half n) ∙ ap (λ (x : ℕ). x / 2) t ∙ half q p in
    let square : q * p * (q * p) ≡ n = subst (λ (x : ℕ). x * x ≡ n) is (twice_root-even n even) in
    odd_square q a o (eq_of_mul-eq-mul_right (p * p) (mul-pos P P) (q * q) (a * 2 ^ 54) (mul-mul-mul_comm q q p p ∙ square ∙ N))
  where
    twos : (q p : ℕ) → q * (2 * p) % 2 ≡ 0
    twos q p = omega arith

    half : (q p : ℕ) → q * (2 * p) / 2 ≡ q * p
    half q p = omega arith

-- ---- the whole
pub of_root : (x : Float) (u m i q : ℕ) → HasValue x false u (2 ^ 1074) → u * 2 ^ 52 ≡ m * 2 ^ i → 2 ^ 52 ≤ m → m < 2 ^ 53 → i ≤ 2097
    → IsRoot (m * 2 ^ (i % 2) * 2 ^ 54) q → of_bits binary64 ((i / 2 + 485) * 2 ^ 52 + (q + 1) / 2) ≡ sqrt binary64 x
of_root x u m i q v e lo hi I r =
    let a = m * 2 ^ (i % 2) in
    let j = i / 2 + 484 in
    let p = 2 ^ j in
    let n = u * 2 ^ 1074 in
    let a_lo : 2 ^ 52 ≤ a = le_trans lo (digits_lo m (i % 2)) in
    let a_hi : a ≤ 2 ^ 54 - 2 = digits_hi m (i % 2) (bit i) hi in
    let q_lo : 2 ^ 53 ≤ q = lead a q a_lo r in
    let q_hi : q ≤ 2 ^ 54 - 2 = short a q a_hi r in
    let N : n ≡ a * 2 ^ 54 * (p * p) = even-places u m (2 ^ (i % 2)) (2 ^ (i / 2)) p (2 ^ i) e (halves i) (pow-add 2 (i / 2) 484) in
    let same : root n / p ≡ q = root_unique (a * 2 ^ 54) (root n / p) q (root_scaled (a * 2 ^ 54) (root n) p (pow_pos j) (subst (λ (z : ℕ). IsRoot z (root n)) N (root-root n))) r in
    let k : suc j ≡ i / 2 + 485 = more (i / 2) in
    ap (λ (z : ℕ). of_bits binary64 (z * 2 ^ 52 + (q + 1) / 2)) (sym k)
    ∙ units-bits (suc j) ((q + 1) / 2) (field i I) (half_lo q q_lo) (half_hi q q_hi) (lt_of_lt_of_le (shl_lt 53 (suc j) (half_hi q q_hi)) (pow_mono (room i I)))
    ∙ sym (sqrt-units x u v (some u m i e (lt_of_lt_of_le (lit< tt) lo) (pow_pos i))
    ∙ round-half (twice_root n) (root n) q j (twice_root-half n) same q_lo (below q q_hi) (λ o. no_tie n a q p (pow_pos j) N o))
  where
    bit : (i : ℕ) → i % 2 < 2
    bit i = omega arith

    more : (h : ℕ) → suc (h + 484) ≡ h + 485
    more h = omega arith

    field : (i : ℕ) → i ≤ 2097 → suc (suc (i / 2 + 484)) < 2047
    field i h = omega arith

    room : (i : ℕ) → i ≤ 2097 → 53 + suc (i / 2 + 484) ≤ 2098
    room i h = omega arith

    half_lo : (q : ℕ) → 2 ^ 53 ≤ q → 2 ^ 52 ≤ (q + 1) / 2
    half_lo q h = omega arith

    half_hi : (q : ℕ) → q ≤ 2 ^ 54 - 2 → (q + 1) / 2 < 2 ^ 53
    half_hi q h = omega arith

    below : (q : ℕ) → q ≤ 2 ^ 54 - 2 → q < 2 ^ 54
    below q h = omega arith

    some : (u m i : ℕ) → u * 2 ^ 52 ≡ m * 2 ^ i → 0 < m → 0 < 2 ^ i → 0 < u
    some u m i e M I = pos u (subst (λ (x : ℕ). 0 < x) (sym e) (mul-pos M I))
      where
        pos : (u : ℕ) → 0 < u * 2 ^ 52 → 0 < u
        pos u h = omega arith

-- ---- what the code asks on the way
pub shifted_lt : (m i : ℕ) → m < 2 ^ 53 → m * 2 ^ (i % 2) ≤ 2 ^ 54 - 2
shifted_lt m i h = digits_hi m (i % 2) (bit i) h
  where
    bit : (i : ℕ) → i % 2 < 2
    bit i = omega arith

pub shifted : (m i : ℕ) → m < 2 ^ 53 → (m * 2 ^ (i % 2)) % 2 ^ 64 ≡ m * 2 ^ (i % 2)
shifted m i h = mod-eq_of_lt (small (m * 2 ^ (i % 2)) (shifted_lt m i h))
  where
    small : (a : ℕ) → a ≤ 2 ^ 54 - 2 → a < 2 ^ 64
    small a h = omega arith

pub root-top : (m i q : ℕ) → m < 2 ^ 53 → IsRoot (m * 2 ^ (i % 2) * 2 ^ 54) q → q ≤ 2 ^ 54 - 2
root-top m i q h r = short (m * 2 ^ (i % 2)) q (shifted_lt m i h) r

pub no_nan : (n : ℕ) → n ≤ 2047 * 2 ^ 52 → T (not (nan_bits binary64 n))
no_nan n h =
    not_T (nan_bits binary64 n) (λ t. no (ltb→lt (2047 * 2 ^ 52) (n % 2 ^ 63) (subst T (nan_bits_above binary64 n) t)))
  where
    no : 2047 * 2 ^ 52 < n % 2 ^ 63 → ⊥
    no k = omega arith

pub shifted_top : (m i : ℕ) → m < 2 ^ 53 → (m * 2 ^ (i % 2)) % 2 ^ 64 < 2 ^ 54
shifted_top m i h = subst (λ (x : ℕ). x < 2 ^ 54) (sym (shifted m i h)) (small (m * 2 ^ (i % 2)) (shifted_lt m i h))
  where
    small : (a : ℕ) → a ≤ 2 ^ 54 - 2 → a < 2 ^ 54
    small a h = omega arith

pub shifted_lead : (m i : ℕ) → 2 ^ 52 ≤ m → m < 2 ^ 53 → 2 ^ 52 ≤ (m * 2 ^ (i % 2)) % 2 ^ 64
shifted_lead m i l h = subst (λ (x : ℕ). 2 ^ 52 ≤ x) (sym (shifted m i h)) (le_trans l (digits_lo m (i % 2)))
