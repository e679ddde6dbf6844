-- Laws of numbers as the grammar spells them, at a place of a text. Assumes nothing.
use Prim.Native.Nat.{ℕ, zero, suc, ◌+◌, ◌-◌, ◌*◌, ◌^◌}
use mathlib.Core.Path.{◌≡◌, refl, sym, ap, ◌∙◌}
use mathlib.Core.Bool.{Bool, true, false, ◌&&◌, ◌||◌}
use mathlib.Core.List.{List, [], ◌++◌, append-nil}
use native.Mathlib.Omega.{arith}
use borrow.Author.Tests.{lt-ltb, eq-eqb, ne_eqb}
use lib.Dec.{ltb, leb}
use lib.ListN.{length, drop, get_or}
use Rattle.std.proofs.Common.{Option}
use Rattle.float.specs.Answer.{Answer, ok, unless}
use Rattle.path.specs.Decimals.{signed}
use Rattle.path.specs.Range.{no_path}
use Rattle.path.specs.Numbers.{Taken, taken, front, behind, is_digit, those, past, value_from, spelled, unsigned, number}
use Rattle.path.specs.declared.Decimal.{Decimal}
use Rattle.numerals.specs.declared.Digits.{Digits}
use Rattle.numerals.specs.declared.Numeral.{Numeral}
use Rattle.numerals.specs.Numerals.{cap, capped, digits_of, numeral_of, numeral_answer, read}
use Rattle.numerals.proofs.Leading.{those-length, cap-row, value_append, front_at, behind_at, past_at}
use Rattle.numerals.proofs.Powers.{cap_scaled, second}

some : (w p : ℕ) → ltb 0 (w + p) ≡ (ltb 0 w || ltb 0 p)
some zero p = let e : 0 + p ≡ p = omega arith in rw e refl
some (suc w) p = rw (lt-ltb 0 (suc w) (omega arith), lt-ltb 0 (suc w + p) (omega arith)) refl

above_zero : (t : ℕ) → ltb 0 (cap t) ≡ ltb 0 t
above_zero zero = refl
above_zero (suc t) = lt-ltb 0 (cap (suc t)) (omega arith) ∙ sym (lt-ltb 0 (suc t) (omega arith))

signed-cap : (s : Bool) (t : ℕ) → signed s (cap t) ≡ capped (signed s t)
unfolding capped
signed-cap s t = rw (above_zero t)

-- the number of w and p digits that make v
spelled_at : (T : List ℕ) (s : Bool) (v w p rest : ℕ) → numeral_answer T (numeral_of s (cap v) w p rest) ≡ read (unless no_path (ltb 0 (w + p) && leb p 3) (ok (taken (signed s (v * 10 ^ (3 - p))) (drop rest T))))
unfolding numeral_of
spelled_at T s v w p rest = rw (some w p) (go ((ltb 0 w || ltb 0 p) && leb p 3) refl)
  where
    go : (b : Bool) → (ltb 0 w || ltb 0 p) && leb p 3 ≡ b → numeral_answer T (numeral_of s (cap v) w p rest) ≡ read (unless no_path ((ltb 0 w || ltb 0 p) && leb p 3) (ok (taken (signed s (v * 10 ^ (3 - p))) (drop rest T))))
    go true e = rw e (ap (λ d. ok (taken d (drop rest T))) (ap (signed s) (cap_scaled v p (second w p e)) ∙ signed-cap s (v * 10 ^ (3 - p))))
    go false e = rw e refl

module _ (T : List ℕ) (s : Bool) (w f : List ℕ) (v a b rest : ℕ) {r : Option Numeral} where
  as-spelled : r ≡ numeral_of s v a b rest → v ≡ cap (value_from 0 (w ++ f)) → a ≡ length w → b ≡ length f → numeral_answer T r ≡ read (spelled s w f (drop rest T))
  unfolding spelled
  as-spelled h e k l = ap (numeral_answer T) (h ∙ same) ∙ spelled_at T s (value_from 0 (w ++ f)) (length w) (length f) rest
    where
      same : numeral_of s v a b rest ≡ numeral_of s (cap (value_from 0 (w ++ f))) (length w) (length f) rest
      same = rw (e, k, l)

-- ---- behind the sign

with_point : (s : Bool) (t : List ℕ) → front (past is_digit t) ≡ 46 → unsigned s t ≡ spelled s (those is_digit t) (those is_digit (behind (past is_digit t))) (past is_digit (behind (past is_digit t)))
unfolding unsigned
with_point s t h = rw (eq-eqb (front (past is_digit t)) 46 h) refl

without_point : (s : Bool) (t : List ℕ) → (front (past is_digit t) ≡ 46 → ⊥) → unsigned s t ≡ spelled s (those is_digit t) [] (past is_digit t)
unfolding unsigned
without_point s t h = rw (ne_eqb (front (past is_digit t)) 46 h) refl

-- the digits from a place on are so many
digits_count : (T : List ℕ) (at v : ℕ) {d : Digits} → d ≡ digits_of T at v → d.end - at ≡ length (those is_digit (drop at T))
digits_count T at v e = omega (arith, ap (λ d. d.end) e, those-length is_digit (drop at T))

module _ (T : List ℕ) (at : ℕ) (s : Bool) {whole : Digits} (is : whole ≡ digits_of T at 0) {b : ℕ} (byte : b ≡ get_or T whole.end 0) where
  rest_is : drop whole.end T ≡ past is_digit (drop at T)
  rest_is = past_at T at is_digit (ap (λ d. d.end) is)

  front_is : b ≡ front (past is_digit (drop at T))
  front_is = byte ∙ sym (front_at T whole.end) ∙ ap front rest_is

  behind_is : drop (whole.end + 1) T ≡ behind (past is_digit (drop at T))
  behind_is = sym (behind_at T whole.end) ∙ ap behind rest_is

  -- with a point
  pub pointed : {all : Digits} {r : Option Numeral} → b ≡ 46 → all ≡ digits_of T (whole.end + 1) whole.value → r ≡ numeral_of s all.value (whole.end - at) (all.end - (whole.end + 1)) all.end → numeral_answer T r ≡ read (unsigned s (drop at T))
  pointed {all} h e k =
      as-spelled T s (those is_digit (drop at T)) (those is_digit (drop (whole.end + 1) T)) all.value (whole.end - at) (all.end - (whole.end + 1)) all.end k value
      (digits_count T at 0 is) (digits_count T (whole.end + 1) whole.value e)
      ∙ ap read (ap (spelled s (those is_digit (drop at T)) (those is_digit (drop (whole.end + 1) T))) (past_at T (whole.end + 1) is_digit (ap (λ d. d.end) e))
      ∙ ap (λ x. spelled s (those is_digit (drop at T)) (those is_digit x) (past is_digit x)) behind_is ∙ sym (with_point s (drop at T) (sym front_is ∙ h)))
    where
      value : all.value ≡ cap (value_from 0 (those is_digit (drop at T) ++ those is_digit (drop (whole.end + 1) T)))
      value =
          ap (λ d. d.value) e ∙ ap (λ v. cap (value_from v (those is_digit (drop (whole.end + 1) T)))) (ap (λ d. d.value) is)
          ∙ cap-row (those is_digit (drop (whole.end + 1) T)) (value_from 0 (those is_digit (drop at T)))
          ∙ ap cap (sym (value_append (those is_digit (drop at T)) (those is_digit (drop (whole.end + 1) T)) 0))

  -- without
  pub pointless : {r : Option Numeral} → (b ≡ 46 → ⊥) → r ≡ numeral_of s whole.value (whole.end - at) 0 whole.end → numeral_answer T r ≡ read (unsigned s (drop at T))
  pointless h k =
      as-spelled T s (those is_digit (drop at T)) [] whole.value (whole.end - at) 0 whole.end k
      (ap (λ d. d.value) is ∙ ap (λ l. cap (value_from 0 l)) (sym (append-nil (those is_digit (drop at T)))))
      (digits_count T at 0 is) refl
      ∙ ap read (ap (spelled s (those is_digit (drop at T)) []) rest_is ∙ sym (without_point s (drop at T) (λ e. h (front_is ∙ e))))

-- ---- the sign

module _ (T : List ℕ) (at : ℕ) {b : ℕ} (byte : b ≡ get_or T at 0) where
  sign_is : b ≡ front (drop at T)
  sign_is = byte ∙ sym (front_at T at)

  pub plus : {a : Answer (Taken Decimal)} → b ≡ 43 → a ≡ read (unsigned false (drop (at + 1) T)) → a ≡ read (number (drop at T))
  unfolding number
  plus h e = e ∙ rw (eq-eqb (front (drop at T)) 43 (sym sign_is ∙ h), behind_at T at) refl

  pub minus : {a : Answer (Taken Decimal)} → (b ≡ 43 → ⊥) → b ≡ 45 → a ≡ read (unsigned true (drop (at + 1) T)) → a ≡ read (number (drop at T))
  unfolding number
  minus k h e = e ∙ rw (ne_eqb (front (drop at T)) 43 (λ e. k (sign_is ∙ e)), eq-eqb (front (drop at T)) 45 (sym sign_is ∙ h), behind_at T at) refl

  pub bare : {a : Answer (Taken Decimal)} → (b ≡ 43 → ⊥) → (b ≡ 45 → ⊥) → a ≡ read (unsigned false (drop at T)) → a ≡ read (number (drop at T))
  unfolding number
  bare k h e = e ∙ rw (ne_eqb (front (drop at T)) 43 (λ e. k (sign_is ∙ e)), ne_eqb (front (drop at T)) 45 (λ e. h (sign_is ∙ e))) refl
