-- Parameters: one that equals 0 or 1 lies in 0..1. Assumes nothing.
use Prim.Native.Nat.{ℕ, suc, ◌*◌}
use native.Mathlib.Nat.{zero-mul}
use native.Mathlib.Omega.{arith}
use mathlib.Core.Path.{◌≡◌, refl, ◌∙◌}
use mathlib.Core.Bool.{Bool, true, false, ◌&&◌, ◌||◌, beq, cond}
use lib.Dec.{eqb}
use lib.Ieee.{Float, nan, inf, fin, up, down, lt, eq, le, of_bits}
use borrow.Author.Tests.{eqb-true, eq-eqb, ne_eqb}
use Rattle.float.specs.Number.{f0, f1}
use Rattle.float.proofs.Truth.{never, and_left, and_right, both}
use Rattle.float.proofs.Ranks.{Le, said}
use Rattle.numbers.specs.Words.{InUnit}
use Rattle.faults.specs.Tests.{timed}

at_zero : (t : Float) → eq t f0 ≡ true → InUnit t
unfolding eq lt le of_bits
at_zero nan h = never h
at_zero (inf s) h = never h
at_zero (fin s m e) h = go s (eqb-true (m * up e * 1) (0 * down e) (and_left (eqb (m * up e * 1) (0 * down e)) _ h))
  where
    go : (s : Bool) → m * up e * 1 ≡ 0 * down e → Le f0 (fin s m e) × Le (fin s m e) f1
    go false z = let o = zero-mul (down e) in (said false (0 * down e) false (m * up e * 1) (omega arith), said false (m * up e * 1) false (1 * down e) (omega arith))
    go true z = let o = zero-mul (down e) in (said false (0 * down e) true (m * up e * 1) (o, z ∙ o), said true (m * up e * 1) false (1 * down e) tt)

at_one : (t : Float) → eq t f1 ≡ true → InUnit t
unfolding eq lt le of_bits
at_one nan h = never h
at_one (inf s) h = never h
at_one (fin s m e) h = go s (eqb-true (m * up e * 1) (1 * down e) (and_left (eqb (m * up e * 1) (1 * down e)) _ h)) (and_right (eqb (m * up e * 1) (1 * down e)) _ h)
  where
    go : (s : Bool) → m * up e * 1 ≡ 1 * down e → beq s false || eqb (m * up e * 1) 0 ≡ true → Le f0 (fin s m e) × Le (fin s m e) f1
    go false z l = let o = zero-mul (down e) in (said false (0 * down e) false (m * up e * 1) (omega arith), said false (m * up e * 1) false (1 * down e) (omega arith))
    go true z l = (said false (0 * down e) true (m * up e * 1) (zero-mul (down e), eqb-true (m * up e * 1) 0 l), said true (m * up e * 1) false (1 * down e) tt)

module _ (n first i : ℕ) (t : Float) where
  -- a parameter without fault C
  pub timed-unit : timed n first i t ≡ true → InUnit t
  unfolding timed
  timed-unit h = go (eqb i first) (eqb (suc i) n) h
    where
      go : (a b : Bool) → cond a (eq t f0) (cond b (eq t f1) (le f0 t && le t f1)) ≡ true → InUnit t
      go true b h = at_zero t h
      go false true h = at_one t h
      go false false h = (and_left (le f0 t) (le t f1) h, and_right (le f0 t) (le t f1) h)

  pub timed_first : i ≡ first → timed n first i t ≡ eq t f0
  unfolding timed
  timed_first e = rw (eq-eqb i first e)

  pub timed_last : (i ≡ first → ⊥) → suc i ≡ n → timed n first i t ≡ eq t f1
  unfolding timed
  timed_last a e = rw (ne_eqb i first a, eq-eqb (suc i) n e)

  pub timed_of : (i ≡ first → eq t f0 ≡ true) → (suc i ≡ n → eq t f1 ≡ true) → InUnit t → timed n first i t ≡ true
  unfolding timed
  timed_of z o u = go (eqb i first) (eqb (suc i) n) refl refl
    where
      go : (a b : Bool) → eqb i first ≡ a → eqb (suc i) n ≡ b → cond a (eq t f0) (cond b (eq t f1) (le f0 t && le t f1)) ≡ true
      go true b e g = z (eqb-true i first e)
      go false true e g = o (eqb-true (suc i) n g)
      go false false e g = both (le f0 t) (le t f1) u.0 u.1
