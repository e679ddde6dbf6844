-- Finite values with the sign clear: squares, their sums and roots are such. A sum is at least each of its terms, a root grows with its number,
-- and a quotient of a smaller by a larger lies in 0..1.
use mathlib.Core.Path.{◌≡◌, refl, sym, ap, ◌∙◌, subst}
use Prim.Native.Nat.{ℕ, zero, suc, ◌+◌, ◌*◌, ◌/◌, ◌^◌, ◌≤◌, ◌<◌, zero-le}
use native.Mathlib.Nat.{le_trans, le_of_eq, zero-mul, mul-one, one-mul, mul_assoc, mul_comm, mul-le-mul_right, mul-pos, zero-lt-suc}
use native.Mathlib.Omega.{arith}
use mathlib.Core.Bool.{Bool, true, false, true≢false}
use lib.IntN.{pos}
use borrow.Author.Tests.{le-ltb}
use lib.Dec.{T, lt→ltb}
use lib.Ieee.{Float, nan, inf, fin, Format, binary64, unlike, up, down, low, round, fits, sum, add, mul, div, lt, eq, le}
use lib.Ieee.Fits.{up_pos, down_pos}
use lib.Ieee.Bits.{is_true}
use lib.Ieee.Order.{round_mono}
use lib.Ieee.Scale.{grid, round_val, round_under, finite as finiteT}
use Rattle.float.specs.Number.{finite, f0, f1}
use Rattle.float.specs.Number.{finite, f0, f1}
use Rattle.float.proofs.Strict.{Fin}
use Rattle.root.specs.Root.{sqrt, plain}
use Rattle.root.proofs.Nearest.{result, value-plain}
use Rattle.root.proofs.Cases.{zero! }
use Rattle.root.proofs.Laws.{sqrt_mono}
use Rattle.float.proofs.Truth.{never}
use Rattle.numbers.specs.Words.{zer, InUnit}
use Rattle.numbers.proofs.Keeps.{round_keeps}
use Rattle.numbers.proofs.Zeros.{f0_is, f1_is, one_fits, round_none, eq-zero, unlike_self, div_is}
use Rattle.float.proofs.Ranks.{Le, says, said}

fin→T : (x : Float) → Fin x → T (finiteT x)
unfolding finite
fin→T nan h = never h
fin→T (inf s) h = never h
fin→T (fin s m e) h = tt

pub plain-fin : (x : Float) → T (plain x) → Fin x
unfolding finite
plain-fin nan h = absurd h
plain-fin (inf s) h = absurd h
plain-fin (fin s m e) h = refl

pub round-plain : (f : Format) (a c : ℕ) → Fin (round f false a c) → T (plain (round f false a c))
round-plain f a c h = value-plain (round f false a c) (grid f a c) (2 ^ low f) (round_val f a c (round_under f a c (fin→T (round f false a c) h)))

pub add-plain : (f : Format) (x y : Float) → T (plain x) → T (plain y) → Fin (add f x y) → T (plain (add f x y))
unfolding add sum
add-plain f nan y p q h = absurd p
add-plain f (inf s) y p q h = absurd p
add-plain f (fin true m e) y p q h = absurd p
add-plain f (fin false m e) nan p q h = absurd q
add-plain f (fin false m e) (inf t) p q h = absurd q
add-plain f (fin false m e) (fin true n d) p q h = absurd q
add-plain f (fin false m e) (fin false n d) p q h = round-plain f (m * up e * down d + n * up d * down e) (down e * down d) h

pub square_plain : (f : Format) (x : Float) → Fin (mul f x x) → T (plain (mul f x x))
unfolding mul
square_plain f nan h = absurd (fin→T nan h)
square_plain f (inf s) h = absurd (fin→T (inf (unlike s s)) h)
square_plain f (fin s m e) h =
    let q : round f (unlike s s) (m * up e * (m * up e)) (down e * down e) ≡ round f false (m * up e * (m * up e)) (down e * down e) =
    ap (λ (b : Bool). round f b (m * up e * (m * up e)) (down e * down e)) (unlike_self s) in
    subst (λ (v : Float). T (plain v)) (sym q) (round-plain f (m * up e * (m * up e)) (down e * down e) (subst Fin q h))

pub sqrt-plain : (x : Float) → T (fits binary64 x) → T (plain x) → T (plain (sqrt binary64 x))
unfolding sqrt
sqrt-plain nan f p = absurd p
sqrt-plain (inf s) f p = absurd p
sqrt-plain (fin true m e) f p = absurd p
sqrt-plain (fin false zero e) f p = tt
sqrt-plain (fin false (suc m) e) f p =
    let w = result (fin false (suc m) e) f (lt→ltb 0 (suc m) (zero-lt-suc m)) in
    value-plain (sqrt binary64 (fin false (suc m) e)) ((w.q + 1) / 2 * 2 ^ suc w.j) (2 ^ 1074) w.r_val

-- ---- a larger number has no smaller root
plain-above : (x : Float) → T (plain x) → Le zero! x
unfolding le
plain-above nan p = absurd p
plain-above (inf s) p = absurd p
plain-above (fin true m e) p = absurd p
plain-above (fin false m e) p = said false (0 * 1 * down e) false (m * up e * 1) (le_trans (le_of_eq (zero-mul (down e))) zero-le)

-- none is below zero
pub plain_not_below : (x : Float) → T (plain x) → lt x (zer false) ≡ false
unfolding lt
plain_not_below nan p = absurd p
plain_not_below (inf s) p = absurd p
plain_not_below (fin true m e) p = absurd p
plain_not_below (fin false m e) p = le-ltb (m * up e * 1) (0 * 1 * down e) (le_trans (le_of_eq (zero-mul (down e))) zero-le)

pub sqrt-le : (x y : Float) → T (fits binary64 x) → T (fits binary64 y) → T (plain x) → Le x y → Le (sqrt binary64 x) (sqrt binary64 y)
sqrt-le x y f g p h = sqrt_mono x y f g (plain-above x p) h

-- ---- x ≤ x + y
pub add_grows : (f : Format) (x y : Float) → T (fits f x) → T (plain x) → T (plain y) → Le x (add f x y)
unfolding add sum
add_grows f nan y k p q = absurd p
add_grows f (inf s) y k p q = absurd p
add_grows f (fin true m e) y k p q = absurd p
add_grows f (fin false m e) nan k p q = absurd q
add_grows f (fin false m e) (inf t) k p q = absurd q
add_grows f (fin false m e) (fin true n d) k p q = absurd q
add_grows f (fin false m e) (fin false n d) k p q =
    let A = m * up e * down d in
    let B = n * up d * down e in
    let c = down e * down d in
    let C : 0 < c = mul-pos (down_pos e) (down_pos d) in
    let x_is : round f false A c ≡ fin false m e = round_keeps f false m e A c k C (mul_assoc (m * up e) (down d) (down e) ∙ ap (λ (z : ℕ). m * up e * z) (mul_comm (down d) (down e))) in
    subst (λ (v : Float). Le v (round f false (A + B) c)) x_is (is_true (le (round f false A c) (round f false (A + B) c)) (round_mono f A c (A + B) c C C (mul-le-mul_right c (more A B))))
  where
    more : (A B : ℕ) → A ≤ A + B
    more A B = omega arith

-- ---- x / y in 0..1 for x ≤ y
pub div-unit : (f : Format) (x y : Float) → T (plain x) → T (plain y) → eq y (zer false) ≡ false → Le x y → InUnit (div f x y)
div-unit f nan y p q n h = absurd p
div-unit f (inf s) y p q n h = absurd p
div-unit f (fin true m e) y p q n h = absurd p
div-unit f (fin false m e) nan p q n h = absurd q
div-unit f (fin false m e) (inf t) p q n h = absurd q
div-unit f (fin false m e) (fin true k d) p q n h = absurd q
div-unit f (fin false m e) (fin false zero d) p q n h = absurd (true≢false (sym (eq-zero false d) ∙ n))
div-unit f (fin false m e) (fin false (suc k) d) p q n h =
    let A = m * up e * down d in
    let B = suc k * up d * down e in
    let b : 0 < B = mul-pos (mul-pos (zero-lt-suc k) (up_pos d)) (down_pos e) in
    let l : A ≤ B = says false A false B (unfold le in h) in
    let z : Le f0 (round f false A B) =
    subst (λ (v : Float). Le v (round f false A B)) (round_none f false 0 1 refl (zero-lt-suc 0) ∙ sym f0_is)
    (is_true (le (round f false 0 1) (round f false A B)) (round_mono f 0 1 A B (zero-lt-suc 0) b (le_trans (le_of_eq (zero-mul B)) zero-le))) in
    let o : Le (round f false A B) f1 =
    subst (λ (v : Float). Le (round f false A B) v) (round_keeps f false 1 (pos 0) 1 1 (one_fits f) (zero-lt-suc 0) refl ∙ sym f1_is)
    (is_true (le (round f false A B) (round f false 1 1)) (round_mono f A B 1 1 b (zero-lt-suc 0) (le_trans (le_of_eq (mul-one A)) (le_trans l (le_of_eq (sym (one-mul B))))))) in
    subst InUnit (sym (div_is f false m e false k d)) (z, o)
