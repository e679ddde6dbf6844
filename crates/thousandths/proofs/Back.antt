-- There and back: so many thousandths, as a number, are written as themselves. A number is off its thousandths by less than half a one. Assumes nothing.
use mathlib.Core.Path.{◌≡◌, refl, sym, ap, ◌∙◌, subst}
use mathlib.Core.Bool.{Bool, true, false, ◌&&◌}
use Prim.Native.Nat.{ℕ, suc, ◌+◌, ◌-◌, ◌*◌, ◌/◌, ◌%◌, ◌^◌, ◌≤◌, ◌<◌, compare}
use native.Mathlib.Nat.{lt_of_lt_of_le, mul-pos, mul-le-mul_right, div-add-mod', mod-lt, div-lt_iff_lt-mul}
use native.Mathlib.Omega.{arith}
use lib.Dec.{T, ltb, lit<, lit≤}
use lib.IntN.{pos}
use lib.Pow.{pow_pos, pow_mono}
use lib.Ieee.{Float, nan, inf, fin, binary64, up, down, size, round, fits, neg, le}
use lib.Ieee.Bits.{is_true}
use lib.Ieee.Digits.{size-le}
use lib.Ieee.Fits.{down_pos, nearest-le, round_is}
use lib.Ieee.Exact.{HasValue, units_val}
use lib.Ieee.Nearest.{closest, nearest-ge}
use lib.Ieee.Order.{round_mono}
use Rattle.float.specs.Number.{finite, abs}
use Rattle.float.proofs.Truth.{never}
use Rattle.numbers.proofs.Keeps.{round_keeps}
use Rattle.numbers.proofs.Bounds.{round-neg}
use Rattle.path.specs.Decimals.{signed, rounded, written_of, most, nearest_to}
use Rattle.path.specs.Range.{billion, within}
use Rattle.thousandths.proofs.Halves.{rounded_is, rounded-le}
use Rattle.thousandths.proofs.Sign.{value_written}
use Rattle.thousandths.proofs.Pattern.{billion!, billion_is, most-units}

-- ---- what is written
pub written_small : (x : Float) → finite x ≡ true → within x ≡ true → (written_of x).thousandths ≤ most
unfolding written_of finite abs
written_small nan f h = never f
written_small (inf s) f h = never f
written_small (fin s m e) f h =
    rounded-le (1000 * (m * up e)) (down e) most (down_pos e) (more (m * up e) (down e) (most-units (fin false m e) (m * up e) (down e) (refl, refl) h))
  where
    more : (a d : ℕ) → a ≤ 1000000000 * d → 1000 * a ≤ most * d
    more a d h = omega arith

and_twice : (s p : Bool) → (s && p) && p ≡ s && p
and_twice true true = refl
and_twice true false = refl
and_twice false p = refl

signed_twice : (s : Bool) (t : ℕ) → signed (s && ltb 0 t) t ≡ signed s t
signed_twice s t = rw (and_twice s (ltb 0 t))

-- zero is written without a sign
pub canonical : (x : Float) → written_of x ≡ signed (written_of x).negative (written_of x).thousandths
unfolding written_of
canonical nan = refl
canonical (inf s) = refl
canonical (fin s m e) = sym (signed_twice s (rounded (1000 * (m * up e)) (down e)))

-- ---- the number nearest to t thousandths: u units of 2 ^ -1074
record Near (s : Bool) (t : ℕ) : Type 0 where
  u : ℕ
  value : HasValue (round binary64 s t 1000) s u (2 ^ 1074)
  back : rounded (1000 * u) (2 ^ 1074) ≡ t

-- so many units make a step of the numbers up to 2 ^ 30
step : (t : ℕ) → t ≤ most → size (t * 2 ^ 1074 / 1000) - 53 ≤ 1051
step t h = less (size (t * 2 ^ 1074 / 1000)) (size-le (t * 2 ^ 1074 / 1000) 1104 ((div-lt_iff_lt-mul (lit< tt)).1 (go (2 ^ 1074) (2 ^ 1104) refl (pow_pos 1074))))
  where
    less : (z : ℕ) → z ≤ 1104 → z - 53 ≤ 1051
    less z k = omega arith

    go : (p q : ℕ) → q ≡ 2 ^ 30 * p → 0 < p → t * p < q * 1000
    go p q e P = let k : t * p ≤ most * p = mul-le-mul_right p h in omega arith

-- q steps of 1000 * e are off n by a step at most
near_steps : (n e q : ℕ) → 0 < 1000 * e → n / (1000 * e) ≤ q → q ≤ suc (n / (1000 * e)) → (1000 * (q * e) ≤ n + 1000 * e) × (n < 1000 * (q * e) + 1000 * e)
near_steps n e q E lo hi =
    let c = 1000 * e in
    let w = n / c in
    (over w (n % c) (div-add-mod' n c) (mul-le-mul_right c hi), under w (n % c) (div-add-mod' n c) (mod-lt n E) (mul-le-mul_right c lo))
  where
    over : (w r : ℕ) → w * (1000 * e) + r ≡ n → q * (1000 * e) ≤ suc w * (1000 * e) → 1000 * (q * e) ≤ n + 1000 * e
    over w r a b = omega arith

    under : (w r : ℕ) → w * (1000 * e) + r ≡ n → r < 1000 * e → w * (1000 * e) ≤ q * (1000 * e) → n < 1000 * (q * e) + 1000 * e
    under w r a b d = omega arith

-- and so u units are written as t, and do not overflow
units-back : (t u e : ℕ) → t ≤ most → e ≤ 2 ^ 1051 → 1000 * u ≤ t * 2 ^ 1074 + 1000 * e → t * 2 ^ 1074 < 1000 * u + 1000 * e
    → (u < 2 ^ 2098) × (rounded (1000 * u) (2 ^ 1074) ≡ t)
units-back t u e h E lo hi = (lt_of_lt_of_le (fine (2 ^ 1051) (2 ^ 1074) (2 ^ 1115) refl refl (pow_pos 1074) E lo) (pow_mono top), back (2 ^ 1051) (2 ^ 1074) refl (pow_pos 1074) E lo hi)
  where
    top : 1115 ≤ 2098
    top = lit≤ tt

    fine : (m p q : ℕ) → p ≡ 2 ^ 23 * m → q ≡ 2 ^ 41 * p → 0 < p → e ≤ m → 1000 * u ≤ t * p + 1000 * e → u < q
    fine m p q a b P E lo = let k : t * p ≤ most * p = mul-le-mul_right p h in omega arith

    back : (m p : ℕ) → p ≡ 2 ^ 23 * m → 0 < p → e ≤ m → 1000 * u ≤ t * p + 1000 * e → t * p < 1000 * u + 1000 * e → rounded (1000 * u) p ≡ t
    back m p a P E lo hi = rounded_is (1000 * u) p t P (omega arith) (omega arith)

near : (s : Bool) (t : ℕ) → t ≤ most → Near s t
near s t h =
    let n = t * 2 ^ 1074 in
    let k = size (n / 1000) - 53 in
    let c = 1000 * 2 ^ k in
    let q = closest n c in
    let o = compare (n % c * 2) c in
    let b = near_steps n (2 ^ k) q (mul-pos (lit< tt) (pow_pos k)) (nearest-ge (n / c) o) (nearest-le (n / c) o) in
    let r = units-back t (q * 2 ^ k) (2 ^ k) h (pow_mono (step t h)) b.0 b.1 in
    record {
      u = q * 2 ^ k;
      value = subst (λ (x : Float). HasValue x s (q * 2 ^ k) (2 ^ 1074)) (sym (round_is binary64 s t 1000)) (units_val binary64 s q k r.0);
      back = r.1;
    }

-- ---- finite, and not above 1,000,000,000
has_finite : (x : Float) (s : Bool) (u c : ℕ) → HasValue x s u c → finite x ≡ true
unfolding finite
has_finite nan s u c v = absurd v
has_finite (inf t) s u c v = absurd v
has_finite (fin t m e) s u c v = refl

has_abs : (x : Float) (u c : ℕ) → HasValue x false u c → abs x ≡ x
unfolding abs
has_abs nan u c v = absurd v
has_abs (inf t) u c v = absurd v
has_abs (fin true m e) u c v = never (sym v.0)
has_abs (fin false m e) u c v = refl

neg-abs : (x : Float) → abs (neg x) ≡ abs x
unfolding abs neg
neg-abs nan = refl
neg-abs (inf s) = refl
neg-abs (fin s m e) = refl

plus-abs : (t : ℕ) → t ≤ most → abs (round binary64 false t 1000) ≡ round binary64 false t 1000
plus-abs t h = let n = near false t h in has_abs (round binary64 false t 1000) n.u (2 ^ 1074) n.value

round-abs : (s : Bool) (t : ℕ) → t ≤ most → abs (round binary64 s t 1000) ≡ round binary64 false t 1000
round-abs true t h = ap abs (round-neg binary64 t 1000) ∙ neg-abs (round binary64 false t 1000) ∙ plus-abs t h
round-abs false t h = plus-abs t h

billion-fits : T (fits binary64 billion!)
unfolding fits
billion-fits = tt

most_is : round binary64 false most 1000 ≡ billion
most_is = round_keeps binary64 false 1953125 (pos 9) most 1000 billion-fits (lit< tt) refl ∙ sym billion_is

pub near-finite : (s : Bool) (t : ℕ) → t ≤ most → finite (nearest_to (signed s t)) ≡ true
unfolding nearest_to
near-finite s t h = let n = near (s && ltb 0 t) t h in has_finite (round binary64 (s && ltb 0 t) t 1000) (s && ltb 0 t) n.u (2 ^ 1074) n.value

pub near_within : (s : Bool) (t : ℕ) → t ≤ most → within (nearest_to (signed s t)) ≡ true
unfolding nearest_to
near_within s t h =
    ap (λ (y : Float). le y billion) (round-abs (s && ltb 0 t) t h)
    ∙ ap (le (round binary64 false t 1000)) (sym most_is)
    ∙ is_true (le (round binary64 false t 1000) (round binary64 false most 1000)) (round_mono binary64 t 1000 most 1000 (lit< tt) (lit< tt) (mul-le-mul_right 1000 h))

-- ---- and back
pub near-back : (s : Bool) (t : ℕ) → t ≤ most → written_of (nearest_to (signed s t)) ≡ signed s t
unfolding nearest_to
near-back s t h =
    let b = s && ltb 0 t in
    let n = near b t h in
    value_written (round binary64 b t 1000) b n.u (2 ^ 1074) (pow_pos 1074) n.value ∙ ap (signed b) n.back ∙ signed_twice s t

-- so a number that was written once is written the same again
pub written_back : (x : Float) → finite x ≡ true → within x ≡ true → written_of (nearest_to (written_of x)) ≡ written_of x
written_back x f h =
    ap (λ d. written_of (nearest_to d)) (canonical x) ∙ near-back (written_of x).negative (written_of x).thousandths (written_small x f h) ∙ sym (canonical x)
