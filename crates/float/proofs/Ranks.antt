-- The order of floats, as an order of whole numbers. Assumes nothing.
use mathlib.Core.Path.{◌≡◌, refl, sym, ◌∙◌}
use mathlib.Core.Logic.{◌⊎◌, inl, inr}
use Prim.Native.Nat.{ℕ, ◌+◌, ◌≤◌}
use native.Mathlib.Nat.{le_of_eq, le_of_lt, eq-zero-or-pos, eq-or-lt_of_le}
use native.Mathlib.Omega.{arith}
use mathlib.Core.Bool.{Bool, true, false, ◌&&◌, ◌||◌}
use lib.Dec.{T, ltb, eqb}
use lib.Ieee.{Float, below, level, le}
use borrow.Author.Tests.{ltb-true, eqb-true, lt-ltb, eq-eqb}
use Rattle.float.proofs.Truth.{never, both, and_left, and_right}

abbrev pub Le : Float → Float → Type 0
Le x y = le x y ≡ true

-- ---- ±a ≤ ±b
abbrev pub LeN : Bool → ℕ → Bool → ℕ → Type 0
LeN false a false b = a ≤ b
LeN false a true b = (a ≡ 0) × (b ≡ 0)
LeN true a false b = T true
LeN true a true b = b ≤ a

or_true : (p q : Bool) → p || q ≡ true → (p ≡ true) ⊎ (q ≡ true)
or_true true q h = inl refl
or_true false q h = inr h

true_or : (p q : Bool) → p ≡ true → p || q ≡ true
true_or true q h = refl
true_or false q h = never h

or_true_r : (p q : Bool) → q ≡ true → p || q ≡ true
or_true_r true q h = refl
or_true_r false q h = h

pub says : (s : Bool) (a : ℕ) (t : Bool) (b : ℕ) → below s a t b || level s a t b ≡ true → LeN s a t b
says false a false b h = elim (or_true (ltb a b) (eqb a b && true) h) [ inl u ↦ le_of_lt (ltb-true a b u) | inr u ↦ le_of_eq (eqb-true a b (and_left (eqb a b) true u)) ]
says false a true b h =
    let z : a ≡ 0 = eqb-true a 0 (and_right (eqb a b) (eqb a 0) h) in
    (z, sym (eqb-true a b (and_left (eqb a b) (eqb a 0) h)) ∙ z)
says true a false b h = tt
says true a true b h = elim (or_true (ltb b a) (eqb a b && true) h) [ inl u ↦ le_of_lt (ltb-true b a u) | inr u ↦ le_of_eq (sym (eqb-true a b (and_left (eqb a b) true u))) ]

pub said : (s : Bool) (a : ℕ) (t : Bool) (b : ℕ) → LeN s a t b → below s a t b || level s a t b ≡ true
said false a false b h = elim (eq-or-lt_of_le h) [ inl e ↦ or_true_r (ltb a b) (eqb a b && true) (both (eqb a b) true (eq-eqb a b e) refl) | inr l ↦ true_or (ltb a b) (eqb a b && true) (lt-ltb a b l) ]
said false a true b (p, q) = both (eqb a b) (eqb a 0) (eq-eqb a b (p ∙ sym q)) (eq-eqb a 0 p)
said true a false b h = elim (eq-zero-or-pos (a + b)) [
  | inl z ↦ or_true_r (ltb 0 (a + b)) (eqb a b && eqb a 0) (both (eqb a b) (eqb a 0) (eq-eqb a b (omega arith)) (eq-eqb a 0 (omega arith)))
  | inr l ↦ true_or (ltb 0 (a + b)) (eqb a b && eqb a 0) (lt-ltb 0 (a + b) l)
]
said true a true b h = elim (eq-or-lt_of_le h) [ inl e ↦ or_true_r (ltb b a) (eqb a b && true) (both (eqb a b) true (eq-eqb a b (sym e)) refl) | inr l ↦ true_or (ltb b a) (eqb a b && true) (lt-ltb b a l) ]
