-- Rows of digits: how far they go in a text, and the number that they make. Assumes nothing.
use Prim.Native.Nat.{ℕ, zero, suc, ◌+◌, ◌-◌, ◌*◌, ◌/◌, ◌%◌, ◌<◌, ◌≤◌}
use mathlib.Core.Path.{◌≡◌, refl, ap, ◌∙◌}
use mathlib.Core.Bool.{Bool, true, false}
use mathlib.Core.List.{List, [], ◌∷◌, ◌++◌, append_assoc}
use native.Mathlib.Omega.{arith}
use borrow.Author.Tests.{ltb-true, ltb-false, lt-ltb, le-leb}
use lib.Dec.{ltb}
use lib.ListN.{length, length-append}
use lib.Seq.{take-append_seam, drop-append_seam}
use Rattle.text.specs.Text.{digit_char, decimal}
use Rattle.text.proofs.Digits.{decimal_one, decimal-more}
use Rattle.path.specs.Numbers.{front, is_digit, leading, those, past, value_from}

-- ---- bytes of a kind

pub data All (p : ℕ → Bool) : List ℕ → Type 0 where
  none : All p []
  more : {c : ℕ} {s : List ℕ} → p c ≡ true → All p s → All p (c ∷ s)

pub all_append : {p : ℕ → Bool} {s t : List ℕ} → All p s → All p t → All p (s ++ t)
all_append none k = k
all_append (more h r) k = more h (all_append r k)

pub all_front : {p : ℕ → Bool} {s : List ℕ} → All p s → 0 < length s → (t : List ℕ) → p (front (s ++ t)) ≡ true
all_front none h t = absurd (omega arith)
all_front (more e r) h t = e

module _ {p : ℕ → Bool} where
  -- they end where the next byte is of another kind
  pub leading_all : {s : List ℕ} → All p s → (t : List ℕ) → p (front t) ≡ false → leading p (s ++ t) ≡ length s
  unfolding leading
  leading_all none [] h = refl
  leading_all none (c ∷ t) h = rw h
  leading_all (more e r) t h = rw e (ap suc (leading_all r t h))

  pub those_all : {s : List ℕ} → All p s → (t : List ℕ) → p (front t) ≡ false → those p (s ++ t) ≡ s
  those_all {s} a t h = rw (leading_all a t h) (take-append_seam s t)

  pub past_all : {s : List ℕ} → All p s → (t : List ℕ) → p (front t) ≡ false → past p (s ++ t) ≡ t
  past_all {s} a t h = rw (leading_all a t h) (drop-append_seam s t)

-- ---- the digits of a number

pub digit_is : (d : ℕ) → d < 10 → is_digit (48 + d) ≡ true
unfolding is_digit
digit_is d h = simp (le-leb 48 (48 + d) (omega arith), le-leb (48 + d) 57 (omega arith))

pub char_is : (d : ℕ) → d < 10 → digit_char d ≡ 48 + d
unfolding digit_char
char_is d h = rw (lt-ltb d 10 h)

-- what the last digit adds
last_digit : (n : ℕ) (t : List ℕ) → value_from (n / 10) (digit_char (n % 10) ∷ t) ≡ value_from n t
unfolding value_from
last_digit n t =
    let e : 10 * (n / 10) + (48 + n % 10 - 48) ≡ n = omega arith in
    rw (char_is (n % 10) (omega arith)) (ap (λ (v : ℕ). value_from v t) e)

-- the digits of n are some, all are digits, and they make n
pub record Digits (n : ℕ) : Type 0 where
  pub some : 0 < length (decimal n)
  pub all : All is_digit (decimal n)
  pub value : (t : List ℕ) → value_from 0 (decimal n ++ t) ≡ value_from n t

below : (f n : ℕ) → n < f → Digits n
below zero n h = absurd (omega arith)
below (suc f) n h = go (ltb n 10) refl (λ a. below f (n / 10) a)
  where
    go : (b : Bool) → ltb n 10 ≡ b → (n / 10 < f → Digits (n / 10)) → Digits n
    go true e r =
        let m : n < 10 = ltb-true n 10 e in
        let z : n / 10 ≡ 0 = omega arith in
        let s : n % 10 ≡ n = omega arith in
        let c : is_digit (digit_char n) ≡ true = rw (char_is n m) (digit_is n m) in
        record {
          some = rw (decimal_one n m) (omega arith);
          all = rw (decimal_one n m) (more c none);
          value = λ t. rw (decimal_one n m) (rw (z, s) at (last_digit n t));
        }
    go false e r =
        let m : 10 ≤ n = ltb-false n 10 e in
        let d : Digits (n / 10) = r (omega arith) in
        let l : n % 10 < 10 = omega arith in
        let c : is_digit (digit_char (n % 10)) ≡ true = rw (char_is (n % 10) l) (digit_is (n % 10) l) in
        record {
          some = rw (decimal-more n m) (simp length-append (omega arith));
          all = rw (decimal-more n m) (all_append d.all (more c none));
          value = λ t. rw (decimal-more n m, append_assoc) (d.value (digit_char (n % 10) ∷ t) ∙ last_digit n t);
        }

pub digits : (n : ℕ) → Digits n
digits n = below (suc n) n (omega arith)
