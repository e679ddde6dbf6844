-- Laws of digits and of the numbers that they make. Assumes nothing.
use Prim.Native.Nat.{ℕ, suc, ◌+◌, ◌*◌, ◌/◌, ◌^◌, ◌≤◌, ◌<◌}
use mathlib.Core.Path.{◌≡◌, sym, ◌∙◌}
use mathlib.Core.Bool.{and-false}
use mathlib.Core.List.{List, ◌∷◌}
use native.Mathlib.Numerals.{add-one}
use native.Mathlib.Nat.{le-div_iff_mul-le, div-lt_iff_lt-mul}
use native.Mathlib.Omega.{arith}
use borrow.Author.Tests.{lt-ltb, le-ltb}
use lib.ListN.{length, drop, get_or, drop_of_length-le}
use lib.Seq.{drop-cons}
use Rattle.std.proofs.Common.{Option, Some, None}
use Rattle.words.specs.Words.{digit_of, number_from}

-- a digit of the base, with which the number still fits
pub taken : (base v b : ℕ) (s : List ℕ) → digit_of b < base → v * base + digit_of b < 2 ^ 64 → number_from base v (b ∷ s) ≡ number_from base (v * base + digit_of b) s
unfolding number_from
taken base v b s h k = simp (lt-ltb (digit_of b) base h, lt-ltb (v * base + digit_of b) (2 ^ 64) k)

-- no digit of the base
pub foreign : (base v b : ℕ) (s : List ℕ) → base ≤ digit_of b → number_from base v (b ∷ s) ≡ None
unfolding number_from
foreign base v b s h = simp (le-ltb (digit_of b) base h)

-- a digit with which 64 bits do not hold the number
pub passing : (base v b : ℕ) (s : List ℕ) → 2 ^ 64 ≤ v * base + digit_of b → number_from base v (b ∷ s) ≡ None
unfolding number_from
passing base v b s h = simp (le-ltb (v * base + digit_of b) (2 ^ 64) h, and-false)

-- the same at a place of a word
module _ (base v : ℕ) (s : List ℕ) (i d : ℕ) (here : i < length s) (is : d ≡ digit_of (get_or s i 0)) where
  pub more : {r : Option ℕ} → r ≡ number_from base v (drop i s) → d < base → v * base + d < 2 ^ 64 → r ≡ number_from base (v * base + d) (drop (i + 1) s)
  more e h k = e ∙ at_more where
    at_more : number_from base v (drop i s) ≡ number_from base (v * base + d) (drop (i + 1) s)
    at_more = rw (add-one, drop-cons s i 0, is) (taken base v (get_or s i 0) (drop (suc i) s) (omega arith) (omega arith))

  pub foreign_at : {r : Option ℕ} → number_from base v (drop i s) ≡ r → base ≤ d → None ≡ r
  foreign_at e h = sym (foreign base v (get_or s i 0) (drop (suc i) s) (omega arith)) ∙ (rw (drop-cons s i 0) at e)

  pub passing_at : {r : Option ℕ} → number_from base v (drop i s) ≡ r → 2 ^ 64 ≤ v * base + d → None ≡ r
  passing_at e h = sym (passing base v (get_or s i 0) (drop (suc i) s) (rw (sym is) h)) ∙ (rw (drop-cons s i 0) at e)

-- no digit is left
pub end : (base v i : ℕ) (s : List ℕ) {r : Option ℕ} → r ≡ number_from base v (drop i s) → length s ≤ i → Some v ≡ r
unfolding number_from
end base v i s e h = sym (rw (drop_of_length-le s h) at e)

-- a number above m / base is above m once multiplied by the base, and one that is not is not
pub above : {base v m : ℕ} → 0 < base → m / base < v → m < v * base
above pos h = (div-lt_iff_lt-mul pos).0 h

pub within : {base v m : ℕ} → 0 < base → v ≤ m / base → v * base ≤ m
within pos h = (le-div_iff_mul-le pos).0 h
