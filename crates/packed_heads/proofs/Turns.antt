-- Mark numbers that fit: one more, and one that does not. Assumes nothing.
use mathlib.Core.Path.{◌≡◌, refl, ◌∙◌}
use mathlib.Core.Bool.{true, false}
use mathlib.Core.List.{List, [], ◌∷◌}
use Prim.Native.Nat.{ℕ, suc, ◌+◌, ◌*◌, ◌<◌}
use native.Mathlib.Numerals.{add-one}
use borrow.Author.Tests.{lt-ltb, ltb-true}
use lib.ListN.{drop}
use Rattle.float.proofs.Truth.{true-false}
use Rattle.house.specs.Bytes.{num, row, fits, all_fit}
use Rattle.house.proofs.Numbers.{fit_head, fit_cons, fit_append, fit-drop}
use Rattle.house.proofs.Rows.{length-row}
use Rattle.grammar.proofs.Curves.{row_one}
use Rattle.packed.specs.Each.{each}
use Rattle.packed.proofs.Each.{each-whole}

module _ (f : ℕ) (b : List ℕ) (at step : ℕ) where
  abbrev numbers : ℕ → List ℕ
  numbers k = each k (λ (i : ℕ). row 4 1 (drop (at + step * i) b))

  pub fits_more : (i : ℕ) → all_fit f (numbers i) ≡ true → fits f (num 4 b (at + step * i)) ≡ true → all_fit f (numbers (i + 1)) ≡ true
  unfolding each all_fit
  fits_more i all g = rw (add-one i, row_one) (fit_append f (numbers i) (num 4 b (at + step * i) ∷ []) all (fit_cons f (num 4 b (at + step * i)) [] (ltb-true _ _ g) refl))

  pub fits_stop : (k i : ℕ) → i < k → fits f (num 4 b (at + step * i)) ≡ false → all_fit f (numbers k) ≡ true → ⊥
  fits_stop k i h g all =
      let piece : ℕ → List ℕ = λ (i : ℕ). row 4 1 (drop (at + step * i) b) in
      let d : drop (1 * i) (numbers k) ≡ num 4 b (at + step * i) ∷ drop (1 * suc i) (numbers k) = each-whole 1 piece k i (λ j l. length-row 4 1 (drop (at + step * j) b)) h ∙ rw row_one in
      let a : all_fit f (num 4 b (at + step * i) ∷ drop (1 * suc i) (numbers k)) ≡ true = rw d at (fit-drop f (1 * i) (numbers k) all) in
      true-false _ (lt-ltb _ _ (fit_head f (num 4 b (at + step * i)) (drop (1 * suc i) (numbers k)) a)) g
