-- Laws of `each` and `upto`. Assumes nothing.
use mathlib.Core.Path.{◌≡◌, refl, ap, ◌∙◌}
use mathlib.Core.Bool.{Bool, false, ◌&&◌}
use mathlib.Core.List.{[], ◌∷◌, ◌++◌}
use Prim.Native.Nat.{ℕ, zero, suc, ◌+◌, ◌<◌}
use native.Mathlib.Numerals.{add-one}
use native.Mathlib.Omega.{arith}
use borrow.Author.Count.{below_none, below_more}
use lib.ListN.{length, length-append}
use Rattle.float.specs.Calc.{Calc}
use Rattle.float.specs.Folds.{each, upto}
use Rattle.float.proofs.Truth.{and-true, and_left, and_right, not_so, true-false}
use Rattle.float.proofs.Answers.{Fine}

module _ {A : Type 0} (f : ℕ → Calc A) where
  pub each_next : (n : ℕ) → (each (n + 1) f).val ≡ (each n f).val ++ ((f n).val ∷ [])
  unfolding each
  each_next n = rw add-one

  pub each_both : (n : ℕ) → (each (n + 1) f).fine ≡ (each n f).fine && (f n).fine
  unfolding each
  each_both n = rw add-one (ap (λ (x : Bool). (each n f).fine && x) (and-true (f n).fine))

  pub each-length : (n : ℕ) → length (each n f).val ≡ n
  unfolding each
  each-length zero = refl
  each-length (suc n) = length-append (each n f).val ((f n).val ∷ []) ∙ omega (arith, each-length n)

  pub each_all : (n : ℕ) → Fine (each n f) → (k : ℕ) → k < n → Fine (f k)
  unfolding each
  each_all zero h k l = below_none (λ (k : ℕ). Fine (f k)) k l
  each_all (suc n) h k l =
      below_more (λ (k : ℕ). Fine (f k)) n
      (each_all n (and_left (each n f).fine _ h))
      (and_left (f n).fine _ (and_right (each n f).fine _ h))
      k
      (omega arith)

  pub each_bad : (n k : ℕ) → k < n → (f k).fine ≡ false → (each n f).fine ≡ false
  each_bad n k l b = not_so (each n f).fine (λ h. true-false (f k).fine (each_all n h k l) b)

module _ {A : Type 0} (a : A) (f : ℕ → A → Calc A) where
  pub upto_next : (n : ℕ) → (upto (n + 1) a f).val ≡ (f n (upto n a f).val).val
  unfolding upto
  upto_next n = rw add-one

  pub upto_both : (n : ℕ) → (upto (n + 1) a f).fine ≡ (upto n a f).fine && (f n (upto n a f).val).fine
  unfolding upto
  upto_both n = rw add-one

  pub upto_all : (n : ℕ) → Fine (upto n a f) → (k : ℕ) → k < n → Fine (f k (upto k a f).val)
  unfolding upto
  upto_all zero h k l = below_none (λ (k : ℕ). Fine (f k (upto k a f).val)) k l
  upto_all (suc n) h k l =
      below_more (λ (k : ℕ). Fine (f k (upto k a f).val)) n
      (upto_all n (and_left (upto n a f).fine _ h))
      (and_right (upto n a f).fine _ h)
      k
      (omega arith)

  pub upto_bad : (n k : ℕ) → k < n → (f k (upto k a f).val).fine ≡ false → (upto n a f).fine ≡ false
  upto_bad n k l b = not_so (upto n a f).fine (λ h. true-false (f k (upto k a f).val).fine (upto_all n h k l) b)

  -- where the value tells that a step was fine, and that the value before it tells the same, the whole run was fine
  pub upto_good : (Good : A → Type 0) → ((k : ℕ) (b : A) → Good (f k b).val → Fine (f k b) × Good b) → (n : ℕ) → Good (upto n a f).val → Fine (upto n a f)
  unfolding upto
  upto_good Good back zero g = refl
  upto_good Good back (suc n) g =
      let s = back n (upto n a f).val g in
      let r = upto_good Good back n s.1 in
      cc
