-- Finite without a run: `W i x` says that x is finite and at most 2 ^ i in size. Sums and products keep within such bounds as long as 2 ^ i does not overflow.
use mathlib.Core.Path.{◌≡◌, refl, sym, ap, ◌∙◌, subst}
use mathlib.Core.Logic.{◌⊎◌, inl, inr}
use Prim.Native.Nat.{ℕ, zero, suc, ◌+◌, ◌-◌, ◌*◌, ◌%◌, ◌^◌, ◌≤◌, ◌<◌}
use native.Mathlib.Nat.{le_trans, le_of_eq, mul-one, one-mul, mul_assoc, mul_right_comm, mul-mul-mul_comm, mul-le-mul, mul-le-mul_right, mul-pos, zero-lt-suc, pow-succ'}
use native.Mathlib.Omega.{arith}
use mathlib.Core.Bool.{Bool, true, false, ◌&&◌, beq, cond}
use lib.IntN.{pos}
use lib.Dec.{T, leb, ltb, eqb, lt→ltb}
use lib.Pow.{pow-add, pow_mono, pow-lt}
use lib.Ieee.{Float, nan, inf, fin, Format, binary32, binary64, prec, emax, low, unlike, up, down, odd, units, round, fits, neg, sum, add, sub, mul, le}
use lib.Ieee.Bits.{is_true}
use lib.Ieee.Fits.{down_pos, and_i, round_is}
use lib.Ieee.Exact.{odd_sign}
use lib.Ieee.Order.{round_mono}
use Rattle.float.specs.Number.{finite}
use Rattle.float.proofs.Strict.{Fin}
use Rattle.root.specs.Root.{plain}
use Rattle.root.proofs.Nearest.{value-plain}
use Rattle.numbers.proofs.Keeps.{round_keeps}
use Rattle.float.proofs.Ranks.{Le, says}

unfoldable pub W : ℕ → Float → Type 0
W i nan = ⊥
W i (inf s) = ⊥
W i (fin s m e) = m * up e ≤ 2 ^ i * down e

pub w_fin : (i : ℕ) (x : Float) → W i x → Fin x
unfolding W finite
w_fin i nan h = absurd h
w_fin i (inf s) h = absurd h
w_fin i (fin s m e) h = refl

pub w_up : (i j : ℕ) (x : Float) → i ≤ j → W i x → W j x
unfolding W
w_up i j nan l h = h
w_up i j (inf s) l h = h
w_up i j (fin s m e) l h = le_trans h (mul-le-mul_right (down e) (pow_mono l))

pub w_neg : (i : ℕ) (x : Float) → W i x → W i (neg x)
unfolding W neg
w_neg i nan h = h
w_neg i (inf s) h = h
w_neg i (fin s m e) h = h

-- ---- the sign goes through `round`
odd-neg : (d q k l : ℕ) → odd d true q k l ≡ neg (odd d false q k l)
unfolding odd neg
odd-neg d zero k l = refl
odd-neg d (suc q) k l = refl

units-neg : (f : Format) (q k : ℕ) → units f true q k ≡ neg (units f false q k)
unfolding units
units-neg f q k = go (ltb (q * 2 ^ k) (2 ^ (low f + suc (emax f))))
  where
    go : (b : Bool) → cond b (odd (suc (prec f)) true q k (low f)) (inf true) ≡ neg (cond b (odd (suc (prec f)) false q k (low f)) (inf false))
    go true = odd-neg (suc (prec f)) q k (low f)
    go false = unfold neg in refl

pub round-neg : (f : Format) (a c : ℕ) → round f true a c ≡ neg (round f false a c)
round-neg f a c = round_is f true a c ∙ units-neg f _ _ ∙ ap neg (sym (round_is f false a c))

-- rounded with the sign clear: finite with the sign clear, or the infinity
units_shape : (f : Format) (q k : ℕ) → T (plain (units f false q k)) ⊎ (units f false q k ≡ inf false)
unfolding units
units_shape f q k = go (ltb (q * 2 ^ k) (2 ^ (low f + suc (emax f))))
  where
    go : (b : Bool) → T (plain (cond b (odd (suc (prec f)) false q k (low f)) (inf false))) ⊎ (cond b (odd (suc (prec f)) false q k (low f)) (inf false) ≡ inf false)
    go true = inl (value-plain (odd (suc (prec f)) false q k (low f)) (q * 2 ^ k) (2 ^ low f) (odd_sign (suc (prec f)) false q k (low f)))
    go false = inr refl

pub round_shape : (f : Format) (a c : ℕ) → T (plain (round f false a c)) ⊎ (round f false a c ≡ inf false)
round_shape f a c = subst (λ (v : Float). T (plain v) ⊎ (v ≡ inf false)) (sym (round_is f false a c)) (units_shape f _ _)

-- ---- 2 ^ j is a value of the format
pow_fits : (f : Format) (j : ℕ) → j ≤ emax f → T (fits f (fin false 1 (pos j)))
unfolding fits
pow_fits f j h =
    and_i (eqb (1 % 2) 1 && ltb 1 (2 ^ prec f) && leb 1 (2 ^ low f)) (ltb (1 * 2 ^ j) (2 ^ suc (emax f) * 1)) (small f)
    (lt→ltb (1 * 2 ^ j) (2 ^ suc (emax f) * 1) (subst (λ (x : ℕ). x < 2 ^ suc (emax f) * 1) (sym (one-mul (2 ^ j))) (subst (λ (x : ℕ). 2 ^ j < x) (sym (mul-one (2 ^ suc (emax f)))) (pow-lt (up_one h)))))
  where
    small : (f : Format) → T (eqb (1 % 2) 1 && ltb 1 (2 ^ prec f) && leb 1 (2 ^ low f))
    small binary32 = tt
    small binary64 = tt

    up_one : {a b : ℕ} → a ≤ b → a < suc b
    up_one {a} {b} h = omega arith

le_w : (j : ℕ) (r : Float) → T (plain r) → Le r (fin false 1 (pos j)) → W j r
unfolding W le
le_w j nan p h = absurd p
le_w j (inf s) p h = absurd p
le_w j (fin true m e) p h = absurd p
le_w j (fin false m e) p h = le_trans (le_of_eq (sym (mul-one (m * up e)))) (le_trans (says false (m * up e * 1) false (1 * 2 ^ j * down e) h) (le_of_eq (ap (λ (x : ℕ). x * down e) (one-mul (2 ^ j)))))

inf_no : {A : Type 0} (j : ℕ) → Le (inf false) (fin false 1 (pos j)) → A
unfolding le
inf_no j h = absurd (subst T (sym h) tt)

round-plain_w : (f : Format) (a c j : ℕ) → 0 < c → j ≤ emax f → a ≤ 2 ^ j * c → W j (round f false a c)
round-plain_w f a c j C l' h =
    let top_is : round f false (2 ^ j) 1 ≡ fin false 1 (pos j) = round_keeps f false 1 (pos j) (2 ^ j) 1 (pow_fits f j l') (zero-lt-suc 0) (simp (mul-one, one-mul)) in
    let l : Le (round f false a c) (fin false 1 (pos j)) =
    subst (λ (v : Float). Le (round f false a c) v) top_is (is_true (le (round f false a c) (round f false (2 ^ j) 1)) (round_mono f a c (2 ^ j) 1 C (zero-lt-suc 0) (le_trans (le_of_eq (mul-one a)) h))) in
    elim (round_shape f a c) [ inl p ↦ le_w j (round f false a c) p l | inr e ↦ inf_no j (subst (λ (v : Float). Le v (fin false 1 (pos j))) e l) ]

pub round_w : (f : Format) (s : Bool) (a c j : ℕ) → 0 < c → j ≤ emax f → a ≤ 2 ^ j * c → W j (round f s a c)
round_w f false a c j C l h = round-plain_w f a c j C l h
round_w f true a c j C l h = subst (W j) (sym (round-neg f a c)) (w_neg j (round f false a c) (round-plain_w f a c j C l h))

-- ---- the operations
pub mul_w : (f : Format) (i j : ℕ) (x y : Float) → i + j ≤ emax f → W i x → W j y → W (i + j) (mul f x y)
unfolding W mul
mul_w f i j nan y l h k = absurd h
mul_w f i j (inf s) y l h k = absurd h
mul_w f i j (fin s m e) nan l h k = absurd k
mul_w f i j (fin s m e) (inf t) l h k = absurd k
mul_w f i j (fin s m e) (fin t n d) l h k =
    round_w f (unlike s t) (m * up e * (n * up d)) (down e * down d) (i + j) (mul-pos (down_pos e) (down_pos d)) l
    (le_trans (mul-le-mul h k) (le_of_eq (mul-mul-mul_comm (2 ^ i) (down e) (2 ^ j) (down d) ∙ ap (λ (x : ℕ). x * (down e * down d)) (sym (pow-add 2 i j)))))

cond_w : (i : ℕ) (b : Bool) (x y : Float) → W i x → W i y → W i (cond b x y)
cond_w i true x y h k = h
cond_w i false x y h k = k

sum_w : (f : Format) (i : ℕ) (s : Bool) (A : ℕ) (t : Bool) (B c : ℕ) → 0 < c → suc i ≤ emax f → A ≤ 2 ^ i * c → B ≤ 2 ^ i * c → W (suc i) (sum f s A t B c)
unfolding sum
sum_w f i s A t B c C l h k =
    cond_w (suc i) (beq s t) (round f s (A + B) c) (cond (ltb A B) (round f t (B - A) c) (round f (s && ltb B A) (A - B) c))
    (round_w f s (A + B) c (suc i) C l (two (A + B) (both A B (2 ^ i * c) h k)))
    (cond_w (suc i) (ltb A B) (round f t (B - A) c) (round f (s && ltb B A) (A - B) c)
    (round_w f t (B - A) c (suc i) C l (two (B - A) (less B A (2 ^ i * c) k)))
    (round_w f (s && ltb B A) (A - B) c (suc i) C l (two (A - B) (less A B (2 ^ i * c) h))))
  where
    both : (A B K : ℕ) → A ≤ K → B ≤ K → A + B ≤ 2 * K
    both A B K h k = omega arith

    less : (A B K : ℕ) → A ≤ K → A - B ≤ 2 * K
    less A B K h = omega arith

    two : (x : ℕ) → x ≤ 2 * (2 ^ i * c) → x ≤ 2 ^ suc i * c
    two x h = le_trans h (le_of_eq (sym (mul_assoc 2 (2 ^ i) c) ∙ ap (λ (y : ℕ). y * c) (sym (pow-succ' 2 i))))

pub add_w : (f : Format) (i : ℕ) (x y : Float) → suc i ≤ emax f → W i x → W i y → W (suc i) (add f x y)
unfolding W add
add_w f i nan y l h k = absurd h
add_w f i (inf s) y l h k = absurd h
add_w f i (fin s m e) nan l h k = absurd k
add_w f i (fin s m e) (inf t) l h k = absurd k
add_w f i (fin s m e) (fin t n d) l h k =
    sum_w f i s (m * up e * down d) t (n * up d * down e) (down e * down d) (mul-pos (down_pos e) (down_pos d)) l
    (le_trans (mul-le-mul_right (down d) h) (le_of_eq (mul_assoc (2 ^ i) (down e) (down d))))
    (le_trans (mul-le-mul_right (down e) k) (le_of_eq (mul_right_comm (2 ^ i) (down d) (down e) ∙ mul_assoc (2 ^ i) (down e) (down d))))

pub sub_w : (f : Format) (i : ℕ) (x y : Float) → suc i ≤ emax f → W i x → W i y → W (suc i) (sub f x y)
unfolding sub
sub_w f i x y l h k = add_w f i x (neg y) l h (w_neg i y k)
