-- Operations with a zero, with one, and of a value with itself; over either format. Assumes nothing.
use mathlib.Core.Path.{◌≡◌, refl, sym, ap, ◌∙◌}
use mathlib.Core.Logic.{inl, inr}
use Prim.Native.Nat.{ℕ, zero, suc, ◌-◌, ◌*◌, ◌<◌, zero-le}
use native.Mathlib.Nat.{zero-mul, mul-zero, mul-one, one-mul, mul-pos, add-zero, zero-add, sub-zero, sub_self, le_refl, zero-lt-suc}
use native.Mathlib.Omega.{arith}
use mathlib.Core.Bool.{Bool, true, false, not, cond, true≢false}
use lib.IntN.{ℤ, pos}
use lib.Dec.{T, eqb, eqb-suc-zero}
use lib.Ieee.{Float, nan, inf, fin, Format, binary32, binary64, unlike, up, down, round, fits, neg, sum, add, sub, mul, div, eq, of_bits}
use lib.Ieee.Fits.{up_pos, down_pos}
use borrow.Author.Tests.{le-ltb, lt-ltb}
use Rattle.float.specs.Number.{finite, f0, f1}
use Rattle.float.proofs.Truth.{never}
use Rattle.float.proofs.Strict.{Fin}
use Rattle.numbers.specs.Words.{zer, one, Zero, Alike}
use Rattle.numbers.proofs.Keeps.{fin_same, round_keeps}

pub f0_is : f0 ≡ zer false
unfolding of_bits
f0_is = refl

pub f1_is : f1 ≡ one
unfolding of_bits
f1_is = refl

-- ---- zeros and one fit
pub zer-fits : (f : Format) (s : Bool) → T (fits f (zer s))
unfolding fits
zer-fits f s = tt

pub one_fits : (f : Format) → T (fits f one)
unfolding fits
one_fits binary32 = tt
one_fits binary64 = tt

-- a zero that fits is written in one way
pub zero_is : (f : Format) (s : Bool) (e : ℤ) → T (fits f (fin s 0 e)) → fin s 0 e ≡ zer s
zero_is f s e h = fin_same f s 0 e 0 (pos 0) h (zer-fits f s) (simp zero-mul)

pub one_not_zero : {A : Type 0} → Zero one → A
one_not_zero z = absurd (no z)
  where
    no : Zero one → ⊥
    no (s, e) = let z : ◌≡◌ {A = ℕ} 1 0 = cc in omega arith

-- ---- `round` at 0
pub round_none : (f : Format) (s : Bool) (a c : ℕ) → a ≡ 0 → 0 < c → round f s a c ≡ zer s
round_none f s a c z C = round_keeps f s 0 (pos 0) a c (zer-fits f s) C (mul-one a ∙ z ∙ sym (zero-mul c))

-- ---- products
pub mul-zero_r : (f : Format) (x y : Float) → Fin x → Zero y → Zero (mul f x y)
unfolding mul finite
mul-zero_r f nan y h z = never h
mul-zero_r f (inf s) y h z = never h
mul-zero_r f (fin s m e) y h (t, p) =
    (unlike s t, ap (mul f (fin s m e)) p ∙ round_none f (unlike s t) (m * up e * (0 * 1)) (down e * 1) (mul-zero (m * up e)) (mul-pos (down_pos e) (zero-lt-suc 0)))

pub mul-zero_l : (f : Format) (x y : Float) → Zero x → Fin y → Zero (mul f x y)
unfolding mul finite
mul-zero_l f x nan z h = never h
mul-zero_l f x (inf s) z h = never h
mul-zero_l f x (fin s m e) (t, p) h =
    (unlike t s, ap (λ (v : Float). mul f v (fin s m e)) p ∙ round_none f (unlike t s) (0 * 1 * (m * up e)) (1 * down e) (zero-mul (m * up e)) (mul-pos (zero-lt-suc 0) (down_pos e)))

-- the square of a zero is +0
pub unlike_self : (s : Bool) → unlike s s ≡ false
unlike_self true = refl
unlike_self false = refl

pub square_zero : (f : Format) (x : Float) → Zero x → mul f x x ≡ zer false
unfolding mul
square_zero f x (s, p) =
    ap (λ (v : Float). mul f v v) p ∙ ap (λ (b : Bool). round f b 0 1) (unlike_self s) ∙ round_none f false 0 1 refl (zero-lt-suc 0)

unlike-plain : (s : Bool) → unlike s false ≡ s
unlike-plain true = refl
unlike-plain false = refl

pub mul_one_r : (f : Format) (x : Float) → T (fits f x) → Fin x → mul f x one ≡ x
unfolding mul finite
mul_one_r f nan k h = never h
mul_one_r f (inf s) k h = never h
mul_one_r f (fin s m e) k h =
    ap (λ (b : Bool). round f b (m * up e * (1 * 1)) (down e * 1)) (unlike-plain s)
    ∙ round_keeps f s m e (m * up e * (1 * 1)) (down e * 1) k (mul-pos (down_pos e) (zero-lt-suc 0)) (simp mul-one)

-- ---- sums
sum_none_r : (f : Format) (s : Bool) (A : ℕ) (t : Bool) (c : ℕ) → 0 < A → sum f s A t 0 c ≡ round f s A c
unfolding sum
sum_none_r f true A true c h = ap (λ (x : ℕ). round f true x c) (add-zero A)
sum_none_r f false A false c h = ap (λ (x : ℕ). round f false x c) (add-zero A)
sum_none_r f true A false c h = rw (le-ltb A 0 zero-le, lt-ltb 0 A h) (ap (λ (x : ℕ). round f true x c) (sub-zero A))
sum_none_r f false A true c h = rw (le-ltb A 0 zero-le) (ap (λ (x : ℕ). round f false x c) (sub-zero A))

sum_none_l : (f : Format) (s : Bool) (t : Bool) (B c : ℕ) → 0 < B → sum f s 0 t B c ≡ round f t B c
unfolding sum
sum_none_l f true true B c h = ap (λ (x : ℕ). round f true x c) (zero-add B)
sum_none_l f false false B c h = ap (λ (x : ℕ). round f false x c) (zero-add B)
sum_none_l f true false B c h = rw (lt-ltb 0 B h) (ap (λ (x : ℕ). round f false x c) (sub-zero B))
sum_none_l f false true B c h = rw (lt-ltb 0 B h) (ap (λ (x : ℕ). round f true x c) (sub-zero B))

sum_nones : (f : Format) (s t : Bool) (c : ℕ) → 0 < c → Zero (sum f s 0 t 0 c)
unfolding sum
sum_nones f true true c C = (true, round_none f true 0 c refl C)
sum_nones f false false c C = (false, round_none f false 0 c refl C)
sum_nones f true false c C = (false, round_none f false 0 c refl C)
sum_nones f false true c C = (false, round_none f false 0 c refl C)

sum_self : (f : Format) (s : Bool) (A c : ℕ) → 0 < c → sum f s A (not s) A c ≡ zer false
unfolding sum
sum_self f true A c C = rw (le-ltb A A (le_refl A)) (round_none f false (A - A) c (sub_self A) C)
sum_self f false A c C = rw (le-ltb A A (le_refl A)) (round_none f false (A - A) c (sub_self A) C)

pub add-zeros : (f : Format) (x y : Float) → Zero x → Zero y → Zero (add f x y)
unfolding add
add-zeros f x y (s, p) (t, q) =
    let r = sum_nones f s t 1 (zero-lt-suc 0) in
    (r.0, ap (λ (v : Float). add f v y) p ∙ ap (add f (zer s)) q ∙ r.1)

pub neg-zero : (x : Float) → Zero x → Zero (neg x)
unfolding neg
neg-zero x (s, p) = (not s, ap neg p)

pub sub-zeros : (f : Format) (x y : Float) → Zero x → Zero y → Zero (sub f x y)
unfolding sub
sub-zeros f x y p q = add-zeros f x (neg y) p (neg-zero y q)

-- x + 0, 0 + x and x - 0 are x, but for the sign of a zero
pub add_zero_r : (f : Format) (x y : Float) → T (fits f x) → Fin x → Zero y → Alike (add f x y) x
unfolding add finite
add_zero_r f nan y k h z = never h
add_zero_r f (inf s) y k h z = never h
add_zero_r f (fin s zero e) y k h z = let q : Zero (fin s zero e) = (s, zero_is f s e k) in inr (add-zeros f (fin s zero e) y q z, q)
add_zero_r f (fin s (suc m) e) y k h (t, p) =
    inl (ap (add f (fin s (suc m) e)) p
    ∙ ap (λ (b : ℕ). sum f s (suc m * up e * 1) t b (down e * 1)) (zero-mul (down e))
    ∙ sum_none_r f s (suc m * up e * 1) t (down e * 1) (mul-pos (mul-pos (zero-lt-suc m) (up_pos e)) (zero-lt-suc 0))
    ∙ round_keeps f s (suc m) e (suc m * up e * 1) (down e * 1) k (mul-pos (down_pos e) (zero-lt-suc 0)) (simp mul-one))

pub add_zero_l : (f : Format) (x y : Float) → Zero x → T (fits f y) → Fin y → Alike (add f x y) y
unfolding add finite
add_zero_l f x nan z k h = never h
add_zero_l f x (inf s) z k h = never h
add_zero_l f x (fin s zero e) z k h = let q : Zero (fin s zero e) = (s, zero_is f s e k) in inr (add-zeros f x (fin s zero e) z q, q)
add_zero_l f x (fin s (suc m) e) (t, p) k h =
    inl (ap (λ (v : Float). add f v (fin s (suc m) e)) p
    ∙ ap (λ (b : ℕ). sum f t b s (suc m * up e * 1) (1 * down e)) (zero-mul (down e))
    ∙ sum_none_l f t s (suc m * up e * 1) (1 * down e) (mul-pos (mul-pos (zero-lt-suc m) (up_pos e)) (zero-lt-suc 0))
    ∙ round_keeps f s (suc m) e (suc m * up e * 1) (1 * down e) k (mul-pos (zero-lt-suc 0) (down_pos e)) (simp (mul-one, one-mul)))

pub sub_zero_r : (f : Format) (x y : Float) → T (fits f x) → Fin x → Zero y → Alike (sub f x y) x
unfolding sub
sub_zero_r f x y k h z = add_zero_r f x (neg y) k h (neg-zero y z)

-- x - x is +0
pub sub_same : (f : Format) (x : Float) → Fin x → sub f x x ≡ zer false
unfolding sub finite
sub_same f nan h = never h
sub_same f (inf s) h = never h
sub_same f (fin s m e) h = sum_self f s (m * up e * down e) (down e * down e) (mul-pos (down_pos e) (down_pos e))

-- ---- quotients
pub eq-zero : (t : Bool) (d : ℤ) → eq (fin t 0 d) (zer false) ≡ true
unfolding eq
eq-zero true d = simp zero-mul
eq-zero false d = simp zero-mul

pub div_is : (f : Format) (s : Bool) (m : ℕ) (e : ℤ) (t : Bool) (n : ℕ) (d : ℤ) → div f (fin s m e) (fin t (suc n) d) ≡ round f (unlike s t) (m * up e * down d) (suc n * up d * down e)
unfolding div
div_is f s m e t n d = ap (λ (b : Bool). cond b (cond (eqb m 0) nan (inf (unlike s t))) (round f (unlike s t) (m * up e * down d) (suc n * up d * down e))) (eqb-suc-zero n)

pub div-zero_l : (f : Format) (x y : Float) → Zero x → Fin y → eq y (zer false) ≡ false → Zero (div f x y)
unfolding finite
div-zero_l f x nan z h n = never h
div-zero_l f x (inf s) z h n = never h
div-zero_l f x (fin t zero d) z h n = absurd (true≢false (sym (eq-zero t d) ∙ n))
div-zero_l f x (fin t (suc m) d) (s, p) h n = (
  unlike s t,
  ap (λ (v : Float). div f v (fin t (suc m) d)) p
      ∙ div_is f s 0 (pos 0) t m d
      ∙ round_none f (unlike s t) (0 * 1 * down d) (suc m * up d * 1) (zero-mul (down d)) (mul-pos (mul-pos (zero-lt-suc m) (up_pos d)) (zero-lt-suc 0)),
)

pub div_self : (f : Format) (x : Float) → Fin x → eq x (zer false) ≡ false → div f x x ≡ one
unfolding finite
div_self f nan h n = never h
div_self f (inf s) h n = never h
div_self f (fin s zero e) h n = absurd (true≢false (sym (eq-zero s e) ∙ n))
div_self f (fin s (suc m) e) h n =
    div_is f s (suc m) e s m e
    ∙ ap (λ (b : Bool). round f b (suc m * up e * down e) (suc m * up e * down e)) (unlike_self s)
    ∙ round_keeps f false 1 (pos 0) (suc m * up e * down e) (suc m * up e * down e) (one_fits f) (mul-pos (mul-pos (zero-lt-suc m) (up_pos e)) (down_pos e)) (simp (mul-one, one-mul))

-- ---- values that are alike
pub alike_add_r : (f : Format) (a w z : Float) → T (fits f w) → Fin w → Alike a w → Zero z → Alike (add f a z) w
alike_add_r f a w z k h (inl e) q = rw e (add_zero_r f w z k h q)
alike_add_r f a w z k h (inr (p, r)) q = inr (add-zeros f a z p q, r)

pub alike_sub-zero : (f : Format) (x y : Float) → Fin x → Alike y x → Zero (sub f x y)
alike_sub-zero f x y h (inl e) = (false, rw e (sub_same f x h))
alike_sub-zero f x y h (inr (p, r)) = sub-zeros f x y r p

pub alike_zero-sub : (f : Format) (x y : Float) → Fin x → Alike y x → Zero (sub f y x)
alike_zero-sub f x y h (inl e) = (false, rw e (sub_same f x h))
alike_zero-sub f x y h (inr (p, r)) = sub-zeros f y x p r

-- 1 - 0 is 1
pub one_less-zero : (f : Format) (z : Float) → Zero z → sub f one z ≡ one
unfolding finite
one_less-zero f z q = go (sub_zero_r f one z (one_fits f) refl q)
  where
    go : Alike (sub f one z) one → sub f one z ≡ one
    go (inl e) = e
    go (inr (p, r)) = one_not_zero r
