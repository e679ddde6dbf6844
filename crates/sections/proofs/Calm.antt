-- Of two heights that are not two smallest values below zero, the midpoint is not below zero (Lemma 1 (b)). Assumes nothing.
use mathlib.Core.Path.{◌≡◌, refl, sym, ap, ◌∙◌, subst}
use Prim.Native.Nat.{ℕ, zero, suc, ◌+◌, ◌-◌, ◌*◌, ◌/◌, ◌%◌, ◌^◌, ◌≤◌, ◌<◌, zero-le}
use native.Mathlib.Nat.{le_trans, le_of_eq, lt_of_not-le, not-le_of_lt, mul-one, one-mul, zero-mul, mul_assoc, mul-le-mul_right, lt_of_mul-lt-mul_right, mul-pos, zero-lt-suc}
use native.Mathlib.Omega.{arith}
use mathlib.Core.Bool.{Bool, true, false, not, ◌&&◌, cond}
use lib.IntN.{ℤ, pos, negsuc}
use lib.Dec.{T, leb, ltb, eqb, leb→le, nleb→lt, ltb→lt}
use lib.Pow.{pow-add, pow_pos, pow-lt}
use lib.Ieee.{Float, nan, inf, fin, Format, binary32, binary64, prec, emax, low, up, down, size, odd, units, round, sum, add, mul, fits}
use lib.Ieee.Fits.{core, round_is, down_pos, and_l, and_r}
use lib.Ieee.Digits.{back, size-le}
use lib.Ieee.Nearest.{closest, closest_mono, div_mono}
use Rattle.sections.specs.Mid.{half, mid, deep, upright}

-- ---- a fraction of half the smallest value or less rounds to zero
units-zero : (f : Format) (s : Bool) → units f s 0 0 ≡ fin s 0 (pos 0)
unfolding units odd
units-zero binary32 s = refl
units-zero binary64 s = refl

least : (a : ℕ) → a ≤ 0 → a ≡ 0
least a h = omega arith

none : (z p : ℕ) → z ≤ 0 → z - p ≡ 0
none z p h = omega arith

under_one : (w : ℕ) → w ≤ 0 → w < 1
under_one w h = omega arith

to_one : (n c : ℕ) → n * 2 ≤ c → n * 2 ≤ 1 * c
to_one n c h = omega arith

pub round_tiny : (f : Format) (s : Bool) (a c : ℕ) → 0 < c → a * 2 ^ low f * 2 ≤ c → round f s a c ≡ fin s 0 (pos 0)
round_tiny f s a c C h =
    let n = a * 2 ^ low f in
    let w : n / c ≤ 0 = div_mono n c 1 2 C (zero-lt-suc 1) (to_one n c h) in
    let k : size (n / c) - prec f ≡ 0 = none (size (n / c)) (prec f) (size-le (n / c) 0 (under_one (n / c) w)) in
    let q : closest n (c * 2 ^ 0) ≡ 0 = least (closest n (c * 2 ^ 0)) (closest_mono n (c * 2 ^ 0) 1 2 (mul-pos C (pow_pos 0)) (zero-lt-suc 1) (subst (λ (z : ℕ). n * 2 ≤ 1 * z) (sym (mul-one c)) (to_one n c h))) in
    round_is f s a c ∙ ap (λ (z : ℕ). core f s n c z) k ∙ ap (λ (z : ℕ). units f s z 0) q ∙ units-zero f s

-- ---- a fraction that is rounded with the sign clear
odd-upright : (d q k l : ℕ) → T (upright (odd d false q k l))
unfolding odd
odd-upright d zero k l = tt
odd-upright d (suc q) k l = tt

units-upright : (f : Format) (q k : ℕ) → T (upright (units f false q k))
unfolding units
units-upright f q k = go (ltb (q * 2 ^ k) (2 ^ (low f + suc (emax f))))
  where
    go : (b : Bool) → T (upright (cond b (odd (suc (prec f)) false q k (low f)) (inf false)))
    go true = odd-upright (suc (prec f)) q k (low f)
    go false = tt

round-upright : (f : Format) (a c : ℕ) → T (upright (round f false a c))
round-upright f a c = subst (λ (z : Float). T (upright z)) (sym (round_is f false a c)) (units-upright f _ _)

-- ---- half of a height that is not deep: a height is a whole number of smallest values
split : (k l : ℕ) → 2 ^ k ≤ 2 ^ l → 2 ^ (l - k) * 2 ^ k ≡ 2 ^ l
split k l h = sym (pow-add 2 (l - k) k) ∙ ap (λ (z : ℕ). 2 ^ z) (back l k (lt_or l k (λ (g : l < k). not-le_of_lt (pow-lt g) h)))
  where
    lt_or : (l k : ℕ) → (l < k → ⊥) → k ≤ l
    lt_or l k g = le_pred (lt_of_not-le (λ (x : suc l ≤ k). g x))
      where
        le_pred : {a b : ℕ} → a < suc b → a ≤ b
        le_pred {a} {b} x = omega arith

down_divides : (e : ℤ) (l : ℕ) → down e ≤ 2 ^ l → (j : ℕ) × (j * down e ≡ 2 ^ l)
down_divides (pos k) l h = (2 ^ l, mul-one (2 ^ l))
down_divides (negsuc k) l h = (2 ^ (l - suc k), split (suc k) l h)

at_most_one : (x : ℕ) → x < 2 → x ≤ 1
at_most_one x h = omega arith

whole : (m : ℕ) (e : ℤ) (L j : ℕ) → j * down e ≡ L → m * L < 2 * down e → m * L ≤ down e
whole m e L j q h =
    let w : m * j * down e ≡ m * L = mul_assoc m j (down e) ∙ ap (λ (z : ℕ). m * z) q in
    let x : m * j < 2 = lt_of_mul-lt-mul_right (down e) (subst (λ (z : ℕ). z < 2 * down e) (sym w) h) in
    le_trans (le_of_eq (sym w)) (le_trans (mul-le-mul_right (down e) (at_most_one (m * j) x)) (le_of_eq (one-mul (down e))))

fits_down : (f : Format) (s : Bool) (m : ℕ) (e : ℤ) → T (fits f (fin s (suc m) e)) → down e ≤ 2 ^ low f
unfolding fits
fits_down f s m e t =
    let a : Bool = eqb (suc m % 2) 1 in
    let b : Bool = ltb (suc m) (2 ^ prec f) in
    let c : Bool = leb (down e) (2 ^ low f) in
    let d : Bool = ltb (suc m * up e) (2 ^ suc (emax f) * down e) in
    leb→le (down e) (2 ^ low f) (and_r (a && b) c (and_l (a && b && c) d t))

twice_le : (x d : ℕ) → x ≤ d → x * 2 ≤ d * 2
twice_le x d h = mul-le-mul_right 2 h

half_calm : (f : Format) (x : Float) → T (fits f x) → T (not (deep f x)) → T (upright (mul f x half))
unfolding mul
half_calm f nan w p = tt
half_calm f (inf true) w p = absurd p
half_calm f (inf false) w p = tt
half_calm f (fin false m e) w p = round-upright f (m * up e * 1) (down e * 2)
half_calm f (fin true zero e) w p =
    subst (λ (z : Float). T (upright z)) (sym (round_tiny f true (0 * up e * 1) (down e * 2) (mul-pos (down_pos e) (zero-lt-suc 1)) (le_trans (le_of_eq (nothing (up e) (2 ^ low f))) zero-le))) tt
  where
    nothing : (u l : ℕ) → 0 * u * 1 * l * 2 ≡ 0
    nothing u l = ap (λ (z : ℕ). z * 2) (ap (λ (z : ℕ). z * l) (ap (λ (z : ℕ). z * 1) (zero-mul u)) ∙ zero-mul l)
half_calm f (fin true (suc m) e) w p =
    let L = 2 ^ low f in
    let j = down_divides e (low f) (fits_down f true m e w) in
    let lt2 : suc m * up e * L < 2 * down e = nleb→lt (2 * down e) (suc m * up e * L) p in
    let le1 : suc m * up e * L ≤ down e = whole (suc m * up e) e L j.0 j.1 lt2 in
    subst (λ (z : Float). T (upright z))
    (sym (round_tiny f true (suc m * up e * 1) (down e * 2) (mul-pos (down_pos e) (zero-lt-suc 1))
    (twice_le (suc m * up e * 1 * L) (down e) (subst (λ (z : ℕ). z * L ≤ down e) (sym (mul-one (suc m * up e))) le1)))) tt

-- ---- the sum of two that are not below zero
nil : (e : ℤ) (d : ℤ) → 0 * up e * down d ≡ 0
nil e d = ap (λ (z : ℕ). z * down d) (zero-mul (up e)) ∙ zero-mul (down d)

add-upright : (f : Format) (x y : Float) → T (upright x) → T (upright y) → T (upright (add f x y))
unfolding add sum
add-upright f nan y p q = tt
add-upright f (inf true) y p q = absurd p
add-upright f (inf false) nan p q = tt
add-upright f (inf false) (inf true) p q = absurd q
add-upright f (inf false) (inf false) p q = tt
add-upright f (inf false) (fin t n d) p q = tt
add-upright f (fin true (suc m) e) y p q = absurd p
add-upright f (fin true zero e) nan p q = tt
add-upright f (fin true zero e) (inf t) p q = q
add-upright f (fin true zero e) (fin true (suc n) d) p q = absurd q
add-upright f (fin false m e) nan p q = tt
add-upright f (fin false m e) (inf t) p q = q
add-upright f (fin false m e) (fin true (suc n) d) p q = absurd q
add-upright f (fin false m e) (fin false n d) p q = round-upright f (m * up e * down d + n * up d * down e) (down e * down d)
add-upright f (fin true zero e) (fin true zero d) p q =
    subst (λ (z : Float). T (upright z))
    (sym (round_tiny f true (0 * up e * down d + 0 * up d * down e) (down e * down d) (mul-pos (down_pos e) (down_pos d))
    (le_trans (le_of_eq (ap (λ (z : ℕ). z * 2) (ap (λ (z : ℕ). z * 2 ^ low f) (sums (0 * up e * down d) (0 * up d * down e) (nil e d) (nil d e)) ∙ zero-mul (2 ^ low f)))) zero-le))) tt
  where
    sums : (a b : ℕ) → a ≡ 0 → b ≡ 0 → a + b ≡ 0
    sums a b h k = omega arith
add-upright f (fin true zero e) (fin false n d) p q = go (0 * up e * down d) (n * up d * down e) (down e * down d) (nil e d)
  where
    go : (a b c : ℕ) → a ≡ 0 → T (upright (cond (ltb a b) (round f false (b - a) c) (round f (ltb b a) (a - b) c)))
    go a b c h = case (ltb a b) (ltb b a) (λ (t : T (ltb b a)). neither a b h (ltb→lt b a t))
      where
        neither : (a b : ℕ) → a ≡ 0 → b < a → ⊥
        neither a b h k = omega arith

        case : (x y : Bool) → (T y → ⊥) → T (upright (cond x (round f false (b - a) c) (round f y (a - b) c)))
        case true y n = round-upright f (b - a) c
        case false true n = absurd (n tt)
        case false false n = round-upright f (a - b) c
add-upright f (fin false m e) (fin true zero d) p q = go (m * up e * down d) (0 * up d * down e) (down e * down d) (nil d e)
  where
    go : (a b c : ℕ) → b ≡ 0 → T (upright (cond (ltb a b) (round f true (b - a) c) (round f false (a - b) c)))
    go a b c h = case (ltb a b) (λ (t : T (ltb a b)). neither a b h (ltb→lt a b t))
      where
        neither : (a b : ℕ) → b ≡ 0 → a < b → ⊥
        neither a b h k = omega arith

        case : (x : Bool) → (T x → ⊥) → T (upright (cond x (round f true (b - a) c) (round f false (a - b) c)))
        case true n = absurd (n tt)
        case false n = round-upright f (a - b) c

-- Lemma 1 (b): of two heights that are not deep the midpoint is not below zero
pub calm_calm : (f : Format) (x y : Float) → T (fits f x) → T (fits f y) → T (not (deep f x)) → T (not (deep f y)) → T (upright (mid f x y))
calm_calm f x y v w p q = add-upright f (mul f x half) (mul f y half) (half_calm f x v p) (half_calm f y w q)
