-- What a caller of `sqrt` may want: at a finite x that is not below zero the root is finite and not below zero, and a larger x has no
-- smaller root. Assumes nothing.
use mathlib.Core.Path.{◌≡◌, refl, sym, ap, ◌∙◌, subst}
use mathlib.Core.Logic.{inl, inr}
use Prim.Native.Nat.{ℕ, zero, suc, ◌+◌, ◌*◌, ◌/◌, ◌^◌, ◌≤◌, ◌<◌, zero-le}
use native.Mathlib.Nat.{le_trans, le_of_eq, lt_irrefl, eq-or-lt_of_le, mul-pos, mul-le-mul_right, zero-mul, zero-lt-suc, mul_right_comm}
use native.Mathlib.Omega.{arith}
use mathlib.Core.Bool.{Bool, true, false, not, cond}
use lib.Dec.{T, eqb, eqb→eq, T_not, lt→ltb}
use lib.IntN.{ℤ, pos}
use lib.Pow.{pow_pos}
use lib.Ieee.{Float, nan, inf, fin, binary64, up, down, lt, eq, le, fits}
use lib.Ieee.Fits.{up_pos, down_pos, eq→eqb}
use lib.Ieee.Bits.{is_true}
use lib.Ieee.Nearest.{div_mono}
use lib.Ieee.Order.{round_mono}
use lib.Ieee.Positive.{positive, le→cross}
use Rattle.float.specs.Number.{finite}
use Rattle.root.specs.Root.{IsRoot, root, twice_root, sqrt, plain}
use Rattle.float.proofs.Truth.{never}
use Rattle.float.proofs.Strict.{Fin}
use Rattle.float.proofs.Ranks.{Le, says, said}
use Rattle.root.proofs.Root.{root-root, root-le}
use Rattle.root.proofs.Nearest.{result, value-plain}
use Rattle.root.proofs.Cases.{zero! }

-- ---- signs
none : (e : ℤ) (k : ℕ) → 0 * up e * k ≡ 0
none e k = ap (λ (x : ℕ). x * k) (zero-mul (up e)) ∙ zero-mul k

some : {A : Type 0} (m : ℕ) (e : ℤ) (k : ℕ) → 0 < k → suc m * up e * k ≡ 0 → A
some m e k K h = absurd (lt_irrefl 0 (subst (λ (x : ℕ). 0 < x) h (mul-pos (mul-pos (zero-lt-suc m) (up_pos e)) K)))

-- a zero is at most every finite number with its sign clear
zero-under : (s : Bool) (e : ℤ) (n : ℕ) (d : ℤ) → Le (fin s zero e) (fin false n d)
unfolding le lt eq
zero-under true e n d = said true (0 * up e * down d) false (n * up d * down e) tt
zero-under false e n d = said false (0 * up e * down d) false (n * up d * down e) (le_trans (le_of_eq (none e (down d))) zero-le)

-- no zero is at most a number below zero
zero-over : {A : Type 0} (s : Bool) (e : ℤ) (n : ℕ) (d : ℤ) → Le (fin s zero e) (fin true (suc n) d) → A
unfolding le lt eq
zero-over true e n d h =
    let l = says true (0 * up e * down d) true (suc n * up d * down e) h in
    some n d (down e) (down_pos e) (nothing (suc n * up d * down e) (0 * up e * down d) l (none e (down d)))
  where
    nothing : (a b : ℕ) → a ≤ b → b ≡ 0 → a ≡ 0
    nothing a b l e = omega arith
zero-over false e n d h = some n d (down e) (down_pos e) (says false (0 * up e * down d) true (suc n * up d * down e) h).1

plain-root : (m : ℕ) (e : ℤ) → T (fits binary64 (fin false (suc m) e)) → T (plain (sqrt binary64 (fin false (suc m) e)))
plain-root m e f =
    let w = result (fin false (suc m) e) f (lt→ltb 0 (suc m) (zero-lt-suc m)) in
    value-plain (sqrt binary64 (fin false (suc m) e)) ((w.q + 1) / 2 * 2 ^ suc w.j) (2 ^ 1074) w.r_val

plain-finite : (r : Float) → T (plain r) → Fin r
unfolding finite
plain-finite nan p = absurd p
plain-finite (inf s) p = absurd p
plain-finite (fin s m e) p = refl

zero-plain : (s : Bool) (e : ℤ) (r : Float) → T (plain r) → Le (fin s zero e) r
zero-plain s e nan p = absurd p
zero-plain s e (inf t) p = absurd p
zero-plain s e (fin true n d) p = absurd p
zero-plain s e (fin false n d) p = zero-under s e n d

plain_top : (r : Float) → T (plain r) → Le r (inf false)
unfolding le lt
plain_top nan p = absurd p
plain_top (inf s) p = absurd p
plain_top (fin s m e) p = refl

-- ---- finite, and not below zero
pub sqrt-finite : (x : Float) → T (fits binary64 x) → Le zero! x → Fin x → Fin (sqrt binary64 x)
unfolding sqrt finite
sqrt-finite nan f l h = h
sqrt-finite (inf s) f l h = never h
sqrt-finite (fin s zero e) f l h = refl
sqrt-finite (fin true (suc m) e) f l h = zero-over false (pos 0) m e l
sqrt-finite (fin false (suc m) e) f l h = plain-finite (sqrt binary64 (fin false (suc m) e)) (plain-root m e f)

pub sqrt-above : (x : Float) → T (fits binary64 x) → Le zero! x → Le zero! (sqrt binary64 x)
unfolding sqrt
sqrt-above nan f l = l
sqrt-above (inf true) f l = never (unfold le lt eq in l)
sqrt-above (inf false) f l = l
sqrt-above (fin s zero e) f l = l
sqrt-above (fin true (suc m) e) f l = zero-over false (pos 0) m e l
sqrt-above (fin false (suc m) e) f l = zero-plain false (pos 0) (sqrt binary64 (fin false (suc m) e)) (plain-root m e f)

-- ---- the order
twice_root_mono : (n k : ℕ) → n ≤ k → twice_root n ≤ twice_root k
unfolding twice_root
twice_root_mono n k h = go (root n) (root k) (eqb (root n * root n) n) (eqb (root k * root k) k) (root-root n) (root-root k) (λ t. eqb→eq (root k * root k) k t) (λ t e. T_not (eqb (root n * root n) n) t (eq→eqb e))
    (root-le k (root n) (root k) (le_trans (root-root n).lower h) (root-root k).upper)
  where
    go : (r s : ℕ) (a b : Bool) → IsRoot n r → IsRoot k s → (T b → s * s ≡ k) → (T (not a) → r * r ≡ n → ⊥) → r ≤ s → cond a (2 * r) (2 * r + 1) ≤ cond b (2 * s) (2 * s + 1)
    go r s true true i j p q l = omega arith
    go r s true false i j p q l = omega arith
    go r s false false i j p q l = omega arith
    go r s false true i j p q l = elim (eq-or-lt_of_le l) [
      | inl e ↦ absurd (no (q tt) (p tt) (ap (λ (x : ℕ). x * x) e) i.lower)
      | inr g ↦ omega arith
    ]
      where
        no : (r * r ≡ n → ⊥) → s * s ≡ k → r * r ≡ s * s → r * r ≤ n → ⊥
        no u v e w = omega arith

positive_mono : (x y : Float) → T (positive x) → T (positive y) → T (le x y) → T (le (sqrt binary64 x) (sqrt binary64 y))
unfolding sqrt
positive_mono nan y p q h = absurd p
positive_mono (inf s) y p q h = absurd p
positive_mono (fin true m e) y p q h = absurd p
positive_mono (fin false zero e) y p q h = absurd p
positive_mono (fin false (suc m) e) nan p q h = absurd q
positive_mono (fin false (suc m) e) (inf s) p q h = absurd q
positive_mono (fin false (suc m) e) (fin true n d) p q h = absurd q
positive_mono (fin false (suc m) e) (fin false zero d) p q h = absurd q
positive_mono (fin false (suc m) e) (fin false (suc n) d) p q h =
    let L = 2 ^ 1074 in
    let c : suc m * up e * down d ≤ suc n * up d * down e = le→cross (fin false (suc m) e) (fin false (suc n) d) p q h in
    let u = suc m * up e * L / down e in
    let v = suc n * up d * L / down d in
    let uv : u ≤ v = div_mono (suc m * up e * L) (down e) (suc n * up d * L) (down d) (down_pos e) (down_pos d)
    (le_trans (le_of_eq (mul_right_comm (suc m * up e) L (down d))) (le_trans (mul-le-mul_right L c) (le_of_eq (mul_right_comm (suc n * up d) (down e) L)))) in
    round_mono binary64 (twice_root (u * L)) (2 * L) (twice_root (v * L)) (2 * L) (mul-pos (zero-lt-suc 1) (pow_pos 1074)) (mul-pos (zero-lt-suc 1) (pow_pos 1074))
    (mul-le-mul_right (2 * L) (twice_root_mono (u * L) (v * L) (mul-le-mul_right L uv)))

pub sqrt_mono : (x y : Float) → T (fits binary64 x) → T (fits binary64 y) → Le zero! x → Le x y → Le (sqrt binary64 x) (sqrt binary64 y)
unfolding sqrt
sqrt_mono nan y f g l h = never (unfold le lt eq in l)
sqrt_mono (inf true) y f g l h = never (unfold le lt eq in l)
sqrt_mono (inf false) nan f g l h = never (unfold le lt eq in h)
sqrt_mono (inf false) (inf true) f g l h = never (unfold le lt eq in h)
sqrt_mono (inf false) (inf false) f g l h = h
sqrt_mono (inf false) (fin t n d) f g l h = never (unfold le lt eq in h)
sqrt_mono (fin s zero e) nan f g l h = never (unfold le lt eq in h)
sqrt_mono (fin s zero e) (inf true) f g l h = never (unfold le lt eq in h)
sqrt_mono (fin s zero e) (inf false) f g l h = h
sqrt_mono (fin s zero e) (fin t zero d) f g l h = h
sqrt_mono (fin s zero e) (fin true (suc n) d) f g l h = zero-over s e n d h
sqrt_mono (fin s zero e) (fin false (suc n) d) f g l h = zero-plain s e (sqrt binary64 (fin false (suc n) d)) (plain-root n d g)
sqrt_mono (fin true (suc m) e) y f g l h = zero-over false (pos 0) m e l
sqrt_mono (fin false (suc m) e) nan f g l h = never (unfold le lt eq in h)
sqrt_mono (fin false (suc m) e) (inf true) f g l h = never (unfold le lt eq in h)
sqrt_mono (fin false (suc m) e) (inf false) f g l h = plain_top (sqrt binary64 (fin false (suc m) e)) (plain-root m e f)
sqrt_mono (fin false (suc m) e) (fin true n d) f g l h = some m e (down d) (down_pos d) (says false (suc m * up e * down d) true (n * up d * down e) (unfold le lt eq in h)).0
sqrt_mono (fin false (suc m) e) (fin false zero d) f g l h =
    some m e (down d) (down_pos d) (nothing (suc m * up e * down d) (0 * up d * down e) (says false (suc m * up e * down d) false (0 * up d * down e) (unfold le lt eq in h)) (none d (down e)))
  where
    nothing : (a b : ℕ) → a ≤ b → b ≡ 0 → a ≡ 0
    nothing a b l e = omega arith
sqrt_mono (fin false (suc m) e) (fin false (suc n) d) f g l h =
    is_true (le (sqrt binary64 (fin false (suc m) e)) (sqrt binary64 (fin false (suc n) d)))
    (positive_mono (fin false (suc m) e) (fin false (suc n) d) (lt→ltb 0 (suc m) (zero-lt-suc m)) (lt→ltb 0 (suc n) (zero-lt-suc n)) (subst T (sym h) tt))

-- a root that is finite is of a finite number
pub sqrt_strict : (x : Float) → Fin (sqrt binary64 x) → Fin x
unfolding sqrt finite
sqrt_strict nan h = h
sqrt_strict (inf true) h = h
sqrt_strict (inf false) h = h
sqrt_strict (fin s m e) h = refl
