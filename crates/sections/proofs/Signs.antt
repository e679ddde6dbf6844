-- Of two heights that are two smallest values below zero or more, the midpoint is too (Lemma 1 (a)). Assumes nothing.
use mathlib.Core.Path.{◌≡◌, refl, sym, ap, ◌∙◌, subst}
use Prim.Native.Nat.{ℕ, zero, suc, ◌+◌, ◌*◌, ◌^◌, ◌≤◌, ◌<◌}
use native.Mathlib.Nat.{le_trans, le_of_eq, mul-one, one-mul, mul_comm, mul_right_comm, add-mul, mul-le-mul_right, mul-pos, zero-lt-suc}
use native.Mathlib.Omega.{arith}
use mathlib.Core.Bool.{Bool, true, false, cond}
use lib.Dec.{T, ltb, leb→le, le→leb, lit≤}
use lib.Pow.{pow_pos}
use lib.Ieee.{Float, nan, inf, fin, Format, binary32, binary64, prec, emax, low, up, down, odd, units, round, neg, sum, add, mul, le}
use lib.Ieee.Fits.{round_is, down_pos}
use lib.Ieee.Exact.{HasValue, round_exact}
use lib.Ieee.Order.{round_mono}
use lib.Ieee.Positive.{num, den, positive, above, above_of_le, own_value, positive_of_value, values_of_le}
use lib.Ieee.Scale.{finite}
use Rattle.sections.specs.Mid.{half, mid, big, deep}

-- ---- the sign of a rounded fraction
odd-neg : (d : ℕ) (q k l : ℕ) → odd d true q k l ≡ neg (odd d false q k l)
unfolding odd neg
odd-neg d zero k l = refl
odd-neg d (suc q) k l = refl

units-neg : (f : Format) (q k : ℕ) → units f true q k ≡ neg (units f false q k)
unfolding units neg
units-neg f q k = go (ltb (q * 2 ^ k) (2 ^ (low f + suc (emax f))))
  where
    go : (b : Bool) → cond b (odd (suc (prec f)) true q k (low f)) (inf true) ≡ neg (cond b (odd (suc (prec f)) false q k (low f)) (inf false))
    go true = odd-neg (suc (prec f)) q k (low f)
    go false = refl

round-neg : (f : Format) (a c : ℕ) → round f true a c ≡ neg (round f false a c)
round-neg f a c = round_is f true a c ∙ units-neg f _ _ ∙ ap neg (sym (round_is f false a c))

-- ---- from below: k smallest values or more stay k or more
positive_of : (y : Float) → T (above y) → T (finite y) → T (positive y)
positive_of nan a t = t
positive_of (inf s) a t = t
positive_of (fin true m e) a t = a
positive_of (fin false m e) a t = a

big_of : (f : Format) (k : ℕ) (y : Float) → T (positive y) → k * den y ≤ num y * 2 ^ low f → T (big f false k y)
big_of f k nan p h = p
big_of f k (inf s) p h = absurd p
big_of f k (fin true m e) p h = p
big_of f k (fin false m e) p h = le→leb (k * down e) (m * up e * 2 ^ low f) h

big-neg : (f : Format) (k : ℕ) (y : Float) → T (big f false k y) → T (big f true k (neg y))
unfolding neg
big-neg f k nan p = p
big-neg f k (inf s) p = p
big-neg f k (fin s m e) p = p

finite-neg : (y : Float) → T (finite (neg y)) → T (finite y)
unfolding neg
finite-neg nan t = t
finite-neg (inf s) t = t
finite-neg (fin s m e) t = t

ge_false : (f : Format) (k a c : ℕ) → 0 < k → k < 2 ^ prec f → k * 2 ^ 0 < 2 ^ (low f + suc (emax f)) → 0 < c → k * c ≤ a * 2 ^ low f
    → T (finite (round f false a c)) → T (big f false k (round f false a c))
ge_false f k a c K small fine C h t =
    let lo = round f false k (2 ^ low f) in
    let y = round f false a c in
    let v : HasValue lo false k (2 ^ low f) = round_exact f false k (2 ^ low f) k 0 (pow_pos (low f)) small fine (ap (λ (z : ℕ). z * 2 ^ low f) (sym (mul-one k))) in
    let P : T (positive lo) = positive_of_value lo k (2 ^ low f) v K in
    let l : T (le lo y) = round_mono f k (2 ^ low f) a c (pow_pos (low f)) C h in
    let Q : T (positive y) = positive_of y (above_of_le lo y P l) t in
    big_of f k y Q (values_of_le lo y k (2 ^ low f) (num y) (den y) P Q v (own_value y Q) l)

ge_true : (f : Format) (k a c : ℕ) → 0 < k → k < 2 ^ prec f → k * 2 ^ 0 < 2 ^ (low f + suc (emax f)) → 0 < c → k * c ≤ a * 2 ^ low f
    → T (finite (round f true a c)) → T (big f true k (round f true a c))
ge_true f k a c K small fine C h t =
    subst (λ (z : Float). T (big f true k z)) (sym (round-neg f a c))
    (big-neg f k (round f false a c) (ge_false f k a c K small fine C h (finite-neg (round f false a c) (subst (λ (z : Float). T (finite z)) (round-neg f a c) t))))

one_small : (f : Format) → 1 < 2 ^ prec f
one_small binary32 = lit≤ tt
one_small binary64 = lit≤ tt

two_small : (f : Format) → 2 < 2 ^ prec f
two_small binary32 = lit≤ tt
two_small binary64 = lit≤ tt

one_fine : (f : Format) → 1 * 2 ^ 0 < 2 ^ (low f + suc (emax f))
one_fine binary32 = lit≤ tt
one_fine binary64 = lit≤ tt

two_fine : (f : Format) → 2 * 2 ^ 0 < 2 ^ (low f + suc (emax f))
two_fine binary32 = lit≤ tt
two_fine binary64 = lit≤ tt

-- ---- half of a deep height, and the sum of two such halves
halved : (d n : ℕ) → 2 * d ≤ n → 1 * (d * 2) ≤ n
halved d n h = omega arith

half-deep : (f : Format) (x : Float) → T (big f true 2 x) → T (finite (mul f x half)) → T (big f true 1 (mul f x half))
unfolding mul
half-deep f nan d t = absurd d
half-deep f (inf s) d t = absurd t
half-deep f (fin false m e) d t = absurd d
half-deep f (fin true m e) d t =
    ge_true f 1 (m * up e * 1) (down e * 2) (zero-lt-suc 0) (one_small f) (one_fine f) (mul-pos (down_pos e) (zero-lt-suc 1))
    (subst (λ (z : ℕ). 1 * (down e * 2) ≤ z * 2 ^ low f) (sym (mul-one (m * up e))) (halved (down e) (m * up e * 2 ^ low f) (leb→le (2 * down e) (m * up e * 2 ^ low f) d))) t

-- a finite sum has finite terms
pub finite_l : (f : Format) (x y : Float) → T (finite (add f x y)) → T (finite x)
unfolding add
finite_l f nan y t = t
finite_l f (inf s) nan t = t
finite_l f (inf true) (inf true) t = t
finite_l f (inf true) (inf false) t = t
finite_l f (inf false) (inf true) t = t
finite_l f (inf false) (inf false) t = t
finite_l f (inf s) (fin u n d) t = t
finite_l f (fin s m e) y t = tt

pub finite_r : (f : Format) (x y : Float) → T (finite (add f x y)) → T (finite y)
unfolding add
finite_r f nan y t = absurd t
finite_r f (inf s) nan t = t
finite_r f (inf true) (inf true) t = t
finite_r f (inf true) (inf false) t = t
finite_r f (inf false) (inf true) t = t
finite_r f (inf false) (inf false) t = t
finite_r f (inf s) (fin u n d) t = tt
finite_r f (fin s m e) nan t = t
finite_r f (fin s m e) (inf u) t = t
finite_r f (fin s m e) (fin u n d) t = tt

both : (a b c L : ℕ) → c ≤ a * L → c ≤ b * L → 2 * c ≤ (a + b) * L
both a b c L h k = le_trans (twice c (a * L) (b * L) h k) (le_of_eq (sym (add-mul a b L)))
  where
    twice : (c x y : ℕ) → c ≤ x → c ≤ y → 2 * c ≤ x + y
    twice c x y h k = omega arith

add-deep : (f : Format) (x y : Float) → T (big f true 1 x) → T (big f true 1 y) → T (finite (add f x y)) → T (big f true 2 (add f x y))
unfolding add sum
add-deep f nan y p q t = absurd p
add-deep f (inf s) y p q t = absurd (finite_l f (inf s) y t)
add-deep f (fin false m e) y p q t = absurd p
add-deep f (fin true m e) nan p q t = absurd q
add-deep f (fin true m e) (inf s) p q t = absurd t
add-deep f (fin true m e) (fin false n d) p q t = absurd q
add-deep f (fin true m e) (fin true n d) p q t =
    let L = 2 ^ low f in
    let hp : down e ≤ m * up e * L = subst (λ (z : ℕ). z ≤ m * up e * L) (one-mul (down e)) (leb→le (1 * down e) (m * up e * L) p) in
    let hq : down d ≤ n * up d * L = subst (λ (z : ℕ). z ≤ n * up d * L) (one-mul (down d)) (leb→le (1 * down d) (n * up d * L) q) in
    ge_true f 2 (m * up e * down d + n * up d * down e) (down e * down d) (zero-lt-suc 1) (two_small f) (two_fine f) (mul-pos (down_pos e) (down_pos d))
    (both (m * up e * down d) (n * up d * down e) (down e * down d) L
    (le_trans (mul-le-mul_right (down d) hp) (le_of_eq (mul_right_comm (m * up e) L (down d))))
    (le_trans (le_of_eq (mul_comm (down e) (down d))) (le_trans (mul-le-mul_right (down e) hq) (le_of_eq (mul_right_comm (n * up d) L (down e)))))) t

-- a finite midpoint has finite ends
half_back : (f : Format) (x : Float) → T (finite (mul f x half)) → T (finite x)
unfolding mul
half_back f nan t = t
half_back f (inf s) t = t
half_back f (fin s m e) t = tt

pub mid_back : (f : Format) (x y : Float) → T (finite (mid f x y)) → T (finite x) × T (finite y)
mid_back f x y t =
    let a = mul f x half in
    let b = mul f y half in
    (half_back f x (finite_l f a b t), half_back f y (finite_r f a b t))

-- Lemma 1 (a): of two deep heights the midpoint is deep
pub deep-deep : (f : Format) (x y : Float) → T (deep f x) → T (deep f y) → T (finite (mid f x y)) → T (deep f (mid f x y))
deep-deep f x y p q t =
    let a = mul f x half in
    let b = mul f y half in
    add-deep f a b (half-deep f x p (finite_l f a b t)) (half-deep f y q (finite_r f a b t)) t
