-- Parts of a lent slice that come back. Assumes nothing.
use Prim.Native.Nat.{ℕ, ◌+◌, ◌-◌, ◌≤◌}
use native.Mathlib.Omega.{arith}
use mathlib.Core.Path.{◌≡◌, ◌∙◌}
use mathlib.Core.List.{List, [], ◌++◌, append-nil, append_assoc}
use lib.ListN.{length, take, drop, length-append, length-take, length-drop, drop_of_length-le}
use lib.Seq.{take_all, take_at, drop_at, drop-drop, take-append-le}
use Rattle.float.specs.Slices.{written}

module _ {A : Type 0} where
  -- xs at the front of C, and then ys at the front of the part from a on, is xs and ys at the front of C
  pub written_behind : (xs ys C C₁ D : List A) (a b : ℕ) → C₁ ≡ written xs C → length xs ≡ a → b ≡ length C₁ - a
      → D ≡ written ys (take b (drop a C₁)) → take a C₁ ++ (D ++ drop b (drop a C₁)) ≡ written (xs ++ ys) C
  written_behind xs ys C C₁ D a b e l lb d =
      let front : take a C₁ ≡ xs = rw e (take_at xs _ a l) in
      let back : drop a C₁ ≡ drop (length xs) C = rw e (drop_at xs _ a l) in
      let all : take b (drop a C₁) ≡ drop (length xs) C = take_all b (drop a C₁) (simp length-drop (omega arith)) ∙ back in
      let none : drop b (drop a C₁) ≡ [] = drop_of_length-le (drop a C₁) {i = b} (simp length-drop (omega arith)) in
      rw (front, none, append-nil, d, all, drop-drop, length-append, append_assoc)

  -- p over the first at + 1 of P, and then p' over what is from `at` on
  pub params-join : (at b : ℕ) (p p' P P₁ : List A) → P₁ ≡ p ++ drop (at + 1) P → at ≤ length p → b ≡ length P₁ - at
      → take at P₁ ++ (p' ++ drop b (drop at P₁)) ≡ take at p ++ p'
  params-join at b p p' P P₁ e h lb =
      let none : drop b (drop at P₁) ≡ [] = drop_of_length-le (drop at P₁) {i = b} (simp length-drop (omega arith)) in
      let front : take at P₁ ≡ take at p = rw e (take-append-le at p _ h) in
      rw (none, append-nil, front)

  -- what comes back is as long as before
  pub part_length : (a b : ℕ) (C D : List A) → a ≤ length C → b ≡ length C - a → length D ≡ length (take b (drop a C)) → length (take a C ++ (D ++ drop b (drop a C))) ≡ length C
  part_length a b C D h e l =
      let l' : length D ≡ length C - a = l ∙ simp (length-take, length-drop) (omega arith) in
      simp (length-append, length-take, length-drop) (omega arith)

  pub inner_length : (a b : ℕ) (C D : List A) → a + b ≤ length C → length D ≡ length (take b (drop a C)) → length (take a C ++ (D ++ drop b (drop a C))) ≡ length C
  inner_length a b C D h l =
      let l' : length D ≡ b = l ∙ simp (length-take, length-drop) (omega arith) in
      simp (length-append, length-take, length-drop) (omega arith)

  pub front_length : (k : ℕ) (C D : List A) → k ≤ length C → length D ≡ length (take k C) → length (D ++ drop k C) ≡ length C
  front_length k C D h l =
      let l' : length D ≡ k = l ∙ simp length-take (omega arith) in
      simp (length-append, length-drop) (omega arith)
