-- A bit pattern with the sign's bit clear: the thousandths of what it stands for. Assumes nothing.
use mathlib.Core.Path.{◌≡◌, refl, sym, ap, ◌∙◌}
use mathlib.Core.Bool.{Bool, true, false, cond}
use Prim.Native.Nat.{ℕ, zero, suc, ◌+◌, ◌-◌, ◌*◌, ◌/◌, ◌%◌, ◌^◌, ◌≤◌, ◌<◌}
use native.Mathlib.Nat.{lt_of_lt_of_le, lt_of_not-le, le_of_mul-le-mul_right, mul-le-mul, mul-le-mul_right, mod-lt, lt_irrefl, pow-suc, mul-mod_left, one-mul}
use native.Mathlib.Omega.{arith}
use lib.Dec.{T, ltb, eqb, lit<, lit≤}
use lib.IntN.{pos}
use lib.Pow.{pow-add, pow_pos, pow_mono, shl_lt, shl_exact}
use lib.Ieee.{Float, nan, inf, fin, binary64, up, down, fits, le, of_fields, of_bits, to_bits}
use lib.Ieee.Fits.{down_pos}
use lib.Ieee.Exact.{HasValue}
use borrow.Author.Tests.{ltb-true, ltb-false}
use Rattle.float.specs.Number.{finite, abs}
use Rattle.float.proofs.Truth.{never, true-false}
use Rattle.float.proofs.Ranks.{says}
use Rattle.float.proofs.Patterns.{positive, normal_value, low_value}
use Rattle.float.proofs.Bits.{abs-bits}
use Rattle.path.specs.Decimals.{rounded, written_of}
use Rattle.path.specs.Range.{billion, within}
use Rattle.thousandths.proofs.Halves.{rounded_is, rounded_same}
use Rattle.thousandths.proofs.Sign.{value_written}

of_value : (x : Float) (u : ℕ) → HasValue x false u (2 ^ 1074) → (written_of x).thousandths ≡ rounded (1000 * u) (2 ^ 1074)
of_value x u v = ap (λ d. d.thousandths) (value_written x false u (2 ^ 1074) (pow_pos 1074) v)

-- ---- below 2^-11: not half a thousandth
few : (u : ℕ) → u < 2 ^ 1063 → rounded (1000 * u) (2 ^ 1074) ≡ 0
few u h = go (2 ^ 1063) (2 ^ 1074) refl (pow_pos 1074) h
  where
    go : (p q : ℕ) → q ≡ 2048 * p → 0 < q → u < p → rounded (1000 * u) q ≡ 0
    go p q e Q h = rounded_is (1000 * u) q 0 Q (omega arith) (omega arith)

pub none_in : (b : ℕ) → b < 0x3f40_0000_0000_0000 → 0 ≡ (written_of (of_bits binary64 b)).thousandths
none_in b h = go (ltb b (2 ^ 52)) refl
  where
    low : b < 2 ^ 52 → b * 2 ^ 0 < 2 ^ 1063
    low l = let k : 52 ≤ 1063 = lit≤ tt in lt_of_lt_of_le (omega arith) (pow_mono k)

    room : 53 + (b / 2 ^ 52 - 1) ≤ 1063
    room = omega arith

    digits : 2 ^ 52 + b % 2 ^ 52 < 2 ^ 53
    digits = omega arith

    normal : (2 ^ 52 + b % 2 ^ 52) * 2 ^ (b / 2 ^ 52 - 1) < 2 ^ 1063
    normal = lt_of_lt_of_le (shl_lt 53 (b / 2 ^ 52 - 1) digits) (pow_mono room)

    go : (k : Bool) → ltb b (2 ^ 52) ≡ k → 0 ≡ (written_of (of_bits binary64 b)).thousandths
    go true e = let l : b < 2 ^ 52 = ltb-true b (2 ^ 52) e in sym (of_value _ _ (low_value b l) ∙ few (b * 2 ^ 0) (low l))
    go false e =
        let l : 2 ^ 52 ≤ b = ltb-false b (2 ^ 52) e in
        sym (of_value _ _ (normal_value b l (omega arith)) ∙ few ((2 ^ 52 + b % 2 ^ 52) * 2 ^ (b / 2 ^ 52 - 1)) normal)

-- ---- from there to 2^30
pub some_in : (b n d : ℕ) → 0x3f40_0000_0000_0000 ≤ b → b < 0x41d0_0000_0000_0000 → n ≡ (b % 2 ^ 52 + 2 ^ 52) * 1000 → d ≡ 2 ^ (1075 - b / 2 ^ 52)
    → rounded n d ≡ (written_of (of_bits binary64 b)).thousandths
some_in b n d lo hi N D =
    let f = b % 2 ^ 52 in
    let i = b / 2 ^ 52 - 1 in
    let j = 1075 - b / 2 ^ 52 in
    rw (N, D)
    (rounded_same ((f + 2 ^ 52) * 1000) (2 ^ j) (1000 * ((2 ^ 52 + f) * 2 ^ i)) (2 ^ 1074) (pow_pos j) (pow_pos 1074) (cross f (2 ^ 52) (2 ^ i) (2 ^ j) (2 ^ 1074) (join i j (places b lo hi)))
    ∙ sym (of_value _ _ (normal_value b (omega arith) (omega arith))))
  where
    places : (b : ℕ) → 0x3f40_0000_0000_0000 ≤ b → b < 0x41d0_0000_0000_0000 → (b / 2 ^ 52 - 1) + (1075 - b / 2 ^ 52) ≡ 1074
    places b h k = omega arith

    join : (i j : ℕ) → i + j ≡ 1074 → 2 ^ 1074 ≡ 2 ^ i * 2 ^ j
    join i j e = ap (λ (x : ℕ). 2 ^ x) (sym e) ∙ pow-add 2 i j

    cross : (f h p q r : ℕ) → r ≡ p * q → (f + h) * 1000 * r ≡ 1000 * ((h + f) * p) * q
    cross f h p q r e = rw e (omega arith)

-- the divisor there: `1 << k` loses nothing, and is even
pub divisor_is : (b : ℕ) → 0x3f40_0000_0000_0000 ≤ b → b < 0x41d0_0000_0000_0000 → 1 * 2 ^ (1075 - b / 2 ^ 52) % 2 ^ 64 ≡ 2 ^ (1075 - b / 2 ^ 52)
divisor_is b lo hi = shl_exact 1 (1075 - b / 2 ^ 52) 64 (lit< tt) (omega arith) ∙ one-mul (2 ^ (1075 - b / 2 ^ 52))

pub divisor_even : (b : ℕ) → 0x3f40_0000_0000_0000 ≤ b → b < 0x41d0_0000_0000_0000
    → (0 < 1 * 2 ^ (1075 - b / 2 ^ 52) % 2 ^ 64) × (1 * 2 ^ (1075 - b / 2 ^ 52) % 2 ^ 64 % 2 ≡ 0)
divisor_even b lo hi = rw (divisor_is b lo hi) (pow_pos (1075 - b / 2 ^ 52), even (1075 - b / 2 ^ 52) (omega arith))
  where
    even : (k : ℕ) → 0 < k → 2 ^ k % 2 ≡ 0
    even zero h = absurd (lt_irrefl 0 h)
    even (suc k) h = ap (λ (x : ℕ). x % 2) (pow-suc 2 k) ∙ mul-mod_left (2 ^ k) 2

-- ---- not above 1,000,000,000
abbrev pub billion! : Float
billion! = fin false 1953125 (pos 9)

pub billion_is : billion ≡ billion!
unfolding of_bits
billion_is = refl

pub most-units : (x : Float) (u c : ℕ) → HasValue x false u c → le x billion ≡ true → u ≤ 1000000000 * c
most-units nan u c v h = absurd v
most-units (inf t) u c v h = absurd v
most-units (fin true m e) u c v h = never (sym v.0)
most-units (fin false m e) u c v h =
    let l : m * up e * 1 ≤ 1953125 * 2 ^ 9 * down e = says false (m * up e * 1) false (1953125 * 2 ^ 9 * down e) (unfold le in (ap (le (fin false m e)) (sym billion_is) ∙ h)) in
    le_of_mul-le-mul_right (go (m * up e) (down e) l v.1) (down_pos e)
  where
    go : (a d : ℕ) → a * 1 ≤ 1953125 * 2 ^ 9 * d → a * c ≡ u * d → u * d ≤ 1000000000 * c * d
    go a d l e = let k : a * 1 * c ≤ 1953125 * 2 ^ 9 * d * c = mul-le-mul_right c l in omega arith

field_top : (t : ℕ) → finite (of_fields binary64 false 2047 t) ≡ false
unfolding of_fields
field_top t = go (eqb t 0)
  where
    go : (b : Bool) → finite (cond b (inf false) nan) ≡ false
    go true = unfold finite in refl
    go false = unfold finite in refl

pub under : (b : ℕ) → b < 2 ^ 63 → finite (of_bits binary64 b) ≡ true → le (of_bits binary64 b) billion ≡ true → b < 0x41d0_0000_0000_0000
under b B f l = lt_of_not-le (λ h. large h)
  where
    top : 0x7ff0_0000_0000_0000 ≤ b → b / 2 ^ 52 ≡ 2047
    top h = omega arith

    ends : b < 0x7ff0_0000_0000_0000
    ends = lt_of_not-le (λ h. true-false (finite (of_bits binary64 b)) f (ap finite (positive b B ∙ ap (λ (x : ℕ). of_fields binary64 false x (b % 2 ^ 52)) (top h)) ∙ field_top (b % 2 ^ 52)))

    large : 0x41d0_0000_0000_0000 ≤ b → ⊥
    large h =
        let u = (2 ^ 52 + b % 2 ^ 52) * 2 ^ (b / 2 ^ 52 - 1) in
        let k : 2 ^ 52 * 2 ^ 1052 ≤ u = mul-le-mul (digits (b % 2 ^ 52)) (pow_mono (places h)) in
        no (2 ^ 1074) (2 ^ 52 * 2 ^ 1052) u refl (pow_pos 1074) k (most-units (of_bits binary64 b) u (2 ^ 1074) (normal_value b (omega arith) ends) l)
      where
        digits : (f : ℕ) → 2 ^ 52 ≤ 2 ^ 52 + f
        digits f = omega arith

        places : 0x41d0_0000_0000_0000 ≤ b → 1052 ≤ b / 2 ^ 52 - 1
        places h = omega arith

        no : (p q u : ℕ) → q ≡ 2 ^ 30 * p → 0 < p → q ≤ u → u ≤ 1000000000 * p → ⊥
        no p q u e P k l = omega arith

pub in_range_is : (x : Float) → T (fits binary64 x) → finite x ≡ true → within x ≡ true → to_bits binary64 x % 2 ^ 63 < 0x41d0_0000_0000_0000
in_range_is x k f h =
    let e : of_bits binary64 (to_bits binary64 x % 2 ^ 63) ≡ abs x = abs-bits x k in
    under (to_bits binary64 x % 2 ^ 63) (mod-lt (to_bits binary64 x) (pow_pos 63)) (ap finite e ∙ still x f) (ap (λ (y : Float). le y billion) e ∙ h)
  where
    still : (x : Float) → finite x ≡ true → finite (abs x) ≡ true
    still nan h = never (unfold finite in h)
    still (inf s) h = never (unfold finite in h)
    still (fin s m e) h = unfold finite abs in refl
