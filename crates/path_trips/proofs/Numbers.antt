-- A number that export writes is read back, whatever follows behind a blank. Assumes nothing.
use Prim.Native.Nat.{ℕ, ◌+◌, ◌-◌, ◌*◌, ◌/◌, ◌%◌, ◌^◌, ◌<◌, ◌≤◌}
use mathlib.Core.Path.{◌≡◌, refl, ap, ◌∙◌}
use mathlib.Core.Bool.{Bool, true, false, cond}
use mathlib.Core.List.{List, [], ◌∷◌, ◌++◌, append_assoc}
use native.Mathlib.Omega.{arith}
use borrow.Author.Tests.{leb-true, eqb-true, lt-ltb, le-leb, ne_eqb}
use lib.Dec.{leb, eqb}
use lib.ListN.{length}
use Rattle.float.specs.Answer.{ok}
use Rattle.float.proofs.Truth.{and_left}
use Rattle.text.specs.Text.{decimal}
use Rattle.path.specs.Decimals.{signed, figure, places_text, sign_text, decimal_text}
use Rattle.path.specs.Numbers.{taken, front, is_space, is_digit, value_from, spelled, unsigned, number}
use Rattle.path.specs.declared.Decimal.{Decimal}
use Rattle.path_trips.proofs.Digits.{All, none, more, all_front, those_all, past_all, digit_is, digits}

-- the end of a text, or a blank
pub data Clear : List ℕ → Type 0 where
  end : Clear []
  blank : {s : List ℕ} → Clear (32 ∷ s)

clear_digit : {s : List ℕ} → Clear s → is_digit (front s) ≡ false
unfolding is_digit
clear_digit end = refl
clear_digit blank = refl

clear_point : {s : List ℕ} → Clear s → eqb (front s) 46 ≡ false
clear_point end = refl
clear_point blank = refl

-- ---- behind the point

-- at most three digits, which together with those before the point make the number
pub data Places (p : ℕ) : List ℕ → Type 0 where
  plain : p ≡ 0 → Places p []
  pointed : {f : List ℕ} → All is_digit f → length f ≤ 3 → ((q : ℕ) → value_from q f * 10 ^ (3 - length f) ≡ 1000 * q + p) → Places p (46 ∷ f)

places_by : (p : ℕ) → p < 1000 → (a b z : Bool) → eqb p 0 ≡ a → eqb (p % 100) 0 ≡ b → eqb (p % 10) 0 ≡ z
    → Places p (cond a [] (cond b (46 ∷ figure (p / 100) ∷ []) (cond z (46 ∷ figure (p / 100) ∷ figure (p / 10 % 10) ∷ []) (46 ∷ figure (p / 100) ∷ figure (p / 10 % 10) ∷ figure (p % 10) ∷ []))))
unfolding value_from
places_by p h true b z ea eb ez = plain (eqb-true p 0 ea)
places_by p h false true z ea eb ez =
    let e : p % 100 ≡ 0 = eqb-true (p % 100) 0 eb in
    pointed (more (digit_is (p / 100) (omega arith)) none) (omega arith) (λ q. omega arith)
places_by p h false false true ea eb ez =
    let e : p % 10 ≡ 0 = eqb-true (p % 10) 0 ez in
    pointed (more (digit_is (p / 100) (omega arith)) (more (digit_is (p / 10 % 10) (omega arith)) none)) (omega arith) (λ q. omega arith)
places_by p h false false false ea eb ez =
    pointed (more (digit_is (p / 100) (omega arith)) (more (digit_is (p / 10 % 10) (omega arith)) (more (digit_is (p % 10) (omega arith)) none))) (omega arith) (λ q. omega arith)

places : (p : ℕ) → p < 1000 → Places p (places_text p)
unfolding places_text
places p h = places_by p h (eqb p 0) (eqb (p % 100) 0) (eqb (p % 10) 0) refl refl refl

-- ---- behind the sign

-- the digits w before the point and f behind it, in thousandths
spelled_back : (s : Bool) (w f r : List ℕ) (t : ℕ) → 0 < length w → length f ≤ 3 → value_from 0 (w ++ f) * 10 ^ (3 - length f) ≡ t → spelled s w f r ≡ ok (taken (signed s t) r)
unfolding spelled
spelled_back s w f r t some few e = rw (lt-ltb 0 (length w + length f) (omega arith), le-leb (length f) 3 few, e)

module _ (s : Bool) (q : ℕ) (r : List ℕ) (c : Clear r) where
  -- with no point
  whole_back : unsigned s (decimal q ++ r) ≡ ok (taken (signed s (q * 1000)) r)
  unfolding unsigned value_from
  whole_back =
      let d = digits q in
      rw (those_all d.all r (clear_digit c), past_all d.all r (clear_digit c), clear_point c)
      (spelled_back s (decimal q) [] r (q * 1000) d.some (omega arith) (rw (d.value []) refl))

  -- with a point, and the digits f behind it
  point-back : (f : List ℕ) (t : ℕ) → All is_digit f → length f ≤ 3 → value_from q f * 10 ^ (3 - length f) ≡ t → unsigned s (decimal q ++ (46 ∷ (f ++ r))) ≡ ok (taken (signed s t) r)
  unfolding unsigned is_digit
  point-back f t a few e =
      let d = digits q in
      let no : is_digit (front (46 ∷ (f ++ r))) ≡ false = refl in
      rw (those_all d.all (46 ∷ (f ++ r)) no, past_all d.all (46 ∷ (f ++ r)) no, those_all a r (clear_digit c), past_all a r (clear_digit c))
      (spelled_back s (decimal q) f r t d.some few (rw (d.value f) e))

  -- as export writes it
  places-back : {f : List ℕ} (p : ℕ) → Places p f → unsigned s (decimal q ++ (f ++ r)) ≡ ok (taken (signed s (1000 * q + p)) r)
  places-back p (plain e) = let z : q * 1000 ≡ 1000 * q + p = omega arith in whole_back ∙ rw z
  places-back p (pointed {f = f} a few e) = point-back f (1000 * q + p) a few (e q)

-- ---- a number

-- neither white space nor a comma
pub record Start (s : List ℕ) : Type 0 where
  pub space : is_space (front s) ≡ false
  pub comma : eqb (front s) 44 ≡ false

digit_from : (c : ℕ) → is_digit c ≡ true → 48 ≤ c
unfolding is_digit
digit_from c h = leb-true 48 c (and_left (leb 48 c) (leb c 57) h)

module _ (x r : List ℕ) (h : is_digit (front (x ++ r)) ≡ true) where
  from : 48 ≤ front (x ++ r)
  from = digit_from (front (x ++ r)) h

  start_by_is : (b : Bool) → Start ((sign_text b ++ x) ++ r)
  unfolding is_space
  start_by_is true = record { space = refl; comma = refl }
  start_by_is false =
      let l = from in
      record {
        space = simp (ne_eqb (front (x ++ r)) 32 (λ e. omega arith), ne_eqb (front (x ++ r)) 9 (λ e. omega arith), ne_eqb (front (x ++ r)) 10 (λ e. omega arith), ne_eqb (front (x ++ r)) 13 (λ e. omega arith));
        comma = ne_eqb (front (x ++ r)) 44 (λ e. omega arith);
      }

  number_by : (b : Bool) → number ((sign_text b ++ x) ++ r) ≡ unsigned b (x ++ r)
  unfolding number
  number_by true = refl
  number_by false = let l = from in rw (ne_eqb (front (x ++ r)) 43 (λ e. omega arith), ne_eqb (front (x ++ r)) 45 (λ e. omega arith))

module _ (d : Decimal) (r : List ℕ) where
  begins : is_digit (front ((decimal (d.thousandths / 1000) ++ places_text (d.thousandths % 1000)) ++ r)) ≡ true
  begins = let g = digits (d.thousandths / 1000) in rw append_assoc (all_front g.all g.some (places_text (d.thousandths % 1000) ++ r))

  pub start_back : Start (decimal_text d ++ r)
  unfolding decimal_text
  start_back = start_by_is (decimal (d.thousandths / 1000) ++ places_text (d.thousandths % 1000)) r begins d.negative

  -- a number that export writes
  pub number_back : signed d.negative d.thousandths ≡ d → Clear r → number (decimal_text d ++ r) ≡ ok (taken d r)
  unfolding decimal_text
  number_back e c =
      let t : ℕ = d.thousandths in
      let z : 1000 * (t / 1000) + t % 1000 ≡ t = omega arith in
      number_by (decimal (t / 1000) ++ places_text (t % 1000)) r begins d.negative
      ∙ ap (unsigned d.negative) (append_assoc (decimal (t / 1000)) (places_text (t % 1000)) r)
      ∙ places-back d.negative (t / 1000) r c (t % 1000) (places (t % 1000) (omega arith))
      ∙ ap (λ (v : ℕ). ok (taken (signed d.negative v) r)) z
      ∙ ap (λ (v : Decimal). ok (taken v r)) e
