-- Laws of the bytes of a kind at a place of a text, and of the digits there. Assumes nothing.
use Prim.Native.Nat.{ℕ, suc, ◌+◌, ◌-◌, ◌*◌, ◌≤◌, ◌<◌}
use mathlib.Core.Path.{◌≡◌, refl, sym, ap, ◌∙◌}
use mathlib.Core.Bool.{Bool, true, false, ◌&&◌, cond}
use mathlib.Core.List.{List, [], ◌∷◌, ◌++◌}
use native.Mathlib.Numerals.{add-one}
use native.Mathlib.Omega.{arith}
use borrow.Author.Tests.{ltb-true, ltb-false, leb-true, eq-eqb, ne_eqb}
use lib.Dec.{ltb, leb}
use lib.ListN.{length, drop, get_or, length-take, length-drop, drop_of_length-le, get_or-eq_default}
use lib.Seq.{drop-cons, drop-drop, get_or-drop}
use Rattle.path.specs.Decimals.{most}
use Rattle.path.specs.Numbers.{is_space, is_digit, leading, those, past, front, behind, value_from}
use Rattle.path.specs.Grammar.{apart}
use Rattle.numerals.specs.declared.Digits.{Digits}
use Rattle.numerals.specs.Numerals.{cap, digits_of}

-- a kind that the byte past the end is not of
module _ (p : ℕ → Bool) (none : p 0 ≡ false) (T : List ℕ) (i : ℕ) where
  pub here : p (get_or T i 0) ≡ true → i < length T
  here h = go (ltb i (length T)) refl
    where
      go : (b : Bool) → ltb i (length T) ≡ b → i < length T
      go true e = ltb-true i (length T) e
      go false e =
          let z : get_or T i 0 ≡ 0 = get_or-eq_default T 0 (ltb-false i (length T) e) in
          let w : false ≡ true = sym none ∙ ap p (sym z) ∙ h in
          let n : ◌≡◌ {A = ℕ} 0 1 = cc in
          absurd (omega arith)

  pub next : p (get_or T i 0) ≡ true → leading p (drop i T) ≡ suc (leading p (drop (i + 1) T))
  unfolding leading
  next h = rw (add-one, drop-cons T i 0 (here h), h)

  pub those_next : p (get_or T i 0) ≡ true → those p (drop i T) ≡ get_or T i 0 ∷ those p (drop (i + 1) T)
  unfolding leading
  those_next h = rw (add-one, drop-cons T i 0 (here h), h)

  pub stop : p (get_or T i 0) ≡ false → leading p (drop i T) ≡ 0
  unfolding leading
  stop h = go (ltb i (length T)) refl
    where
      go : (b : Bool) → ltb i (length T) ≡ b → leading p (drop i T) ≡ 0
      go true e = rw (drop-cons T i 0 (ltb-true i (length T) e), h)
      go false e = rw (drop_of_length-le T (ltb-false i (length T) e))

-- what the code's test of a byte tells of the place that the byte was read from
pub read_as : (p : ℕ → Bool) {n b : ℕ} {s t : Bool} → b ≡ n → s ≡ p b → s ≡ t → p n ≡ t
read_as p e h k = ap p (sym e) ∙ sym h ∙ k

-- ---- lengths

pub leading_within : (p : ℕ → Bool) (s : List ℕ) → leading p s ≤ length s
unfolding leading
leading_within p [] = omega arith
leading_within p (c ∷ s) = go (p c) (leading_within p s)
  where
    go : (b : Bool) → leading p s ≤ length s → cond b (suc (leading p s)) 0 ≤ suc (length s)
    go true h = omega arith
    go false h = omega arith

pub those-length : (p : ℕ → Bool) (s : List ℕ) → length (those p s) ≡ leading p s
those-length p s = simp length-take (omega (arith, leading_within p s))

pub past-length : (p : ℕ → Bool) (s : List ℕ) → length (past p s) ≡ length s - leading p s
past-length p s = length-drop (leading p s) s

-- ---- what digits make, capped

cap-digit : (v d : ℕ) → cap (10 * cap v + d) ≡ cap (10 * v + d)
cap-digit v d = omega arith

pub cap-row : (ds : List ℕ) (v : ℕ) → cap (value_from (cap v) ds) ≡ cap (value_from v ds)
unfolding value_from
cap-row [] v = omega arith
cap-row (d ∷ ds) v = sym (cap-row ds (10 * cap v + (d - 48))) ∙ ap (λ (n : ℕ). cap (value_from n ds)) (cap-digit v (d - 48)) ∙ cap-row ds (10 * v + (d - 48))

pub value_append : (a b : List ℕ) (v : ℕ) → value_from v (a ++ b) ≡ value_from (value_from v a) b
unfolding value_from
value_append [] b v = refl
value_append (d ∷ a) b v = value_append a b (10 * v + (d - 48))

-- ---- digits at a place

no_digit : is_digit 0 ≡ false
unfolding is_digit
no_digit = refl

no_space : is_space 0 ≡ false
unfolding is_space
no_space = refl

digit-above : (c : ℕ) → is_digit c ≡ true → 48 ≤ c
unfolding is_digit
digit-above c h = go (leb 48 c) refl h
  where
    go : (b : Bool) → leb 48 c ≡ b → b && leb c 57 ≡ true → 48 ≤ c
    go true e h = leb-true 48 c e
    go false e h = let n : ◌≡◌ {A = ℕ} 0 1 = cc in absurd (omega arith)

digits_same : {v w i j : ℕ} → v ≡ w → i ≡ j → ◌≡◌ {A = Digits} (record { value = v; end = i }) (record { value = w; end = j })
digits_same e h = cc

module _ (T : List ℕ) (i : ℕ) where
  pub space_here : is_space (get_or T i 0) ≡ true → i < length T
  space_here = here is_space no_space T i

  pub digit_here : is_digit (get_or T i 0) ≡ true → (i < length T) × (48 ≤ get_or T i 0)
  digit_here h = (here is_digit no_digit T i h, digit-above (get_or T i 0) h)

  pub space_more : {n : ℕ} → n ≡ i + leading is_space (drop i T) → is_space (get_or T i 0) ≡ true → n ≡ i + 1 + leading is_space (drop (i + 1) T)
  space_more e h = omega (arith, next is_space no_space T i h)

  pub space_end : {n : ℕ} → n ≡ i + leading is_space (drop i T) → is_space (get_or T i 0) ≡ false → i ≡ n
  space_end e h = omega (arith, stop is_space no_space T i h)

  module _ (v : ℕ) where
    digits_more : is_digit (get_or T i 0) ≡ true → digits_of T i v ≡ digits_of T (i + 1) (cap (10 * v + (get_or T i 0 - 48)))
    unfolding value_from
    digits_more h =
        rw (those_next is_digit no_digit T i h, next is_digit no_digit T i h)
        (digits_same (sym (cap-row (those is_digit (drop (i + 1) T)) (10 * v + (get_or T i 0 - 48)))) (omega arith))

    pub more : {d : Digits} {w : ℕ} → d ≡ digits_of T i v → is_digit (get_or T i 0) ≡ true → w ≡ cap (10 * v + (get_or T i 0 - 48)) → d ≡ digits_of T (i + 1) w
    more {w = w} e h k = e ∙ digits_more h ∙ ap (digits_of T (i + 1)) (sym k)

    pub end : {d : Digits} → d ≡ digits_of T i v → is_digit (get_or T i 0) ≡ false → v ≤ suc most → record { value = v; end = i } ≡ d
    unfolding value_from
    end e h k = digits_same (omega arith) (omega arith) ∙ sym (rw (stop is_digit no_digit T i h) at e)

-- ---- places of a text

module _ (T : List ℕ) (i : ℕ) where
  -- a byte that is none past the end
  pub byte_here : {b : ℕ} → b ≡ get_or T i 0 → 0 < b → i < length T
  byte_here {b} e h = go (ltb i (length T)) refl
    where
      go : (t : Bool) → ltb i (length T) ≡ t → i < length T
      go true w = ltb-true i (length T) w
      go false w = absurd (omega (arith, get_or-eq_default T 0 (ltb-false i (length T) w)))

  pub front_at : front (drop i T) ≡ get_or T i 0
  front_at = get_or-drop i T 0 0 ∙ ap (λ (n : ℕ). get_or T n 0) (omega arith)

  pub behind_at : behind (drop i T) ≡ drop (i + 1) T
  behind_at = drop-drop 1 i T

  pub past_at : (p : ℕ → Bool) {k : ℕ} → k ≡ i + leading p (drop i T) → drop k T ≡ past p (drop i T)
  past_at p e = ap (λ (n : ℕ). drop n T) e ∙ sym (drop-drop (leading p (drop i T)) i T)

-- a comma behind the white space, or none
module _ (T : List ℕ) (at k : ℕ) (is : k ≡ at + leading is_space (drop at T)) {b : ℕ} (byte : b ≡ get_or T k 0) where
  here_is : b ≡ front (past is_space (drop at T))
  here_is = byte ∙ sym (front_at T k) ∙ ap front (past_at T at is_space is)

  pub comma : {r : ℕ} → b ≡ 44 → r ≡ k + 1 + leading is_space (drop (k + 1) T) → drop r T ≡ apart (drop at T)
  unfolding apart
  comma h e =
      past_at T (k + 1) is_space e ∙ ap (past is_space) (sym (behind_at T k) ∙ ap behind (past_at T at is_space is))
      ∙ rw (eq-eqb (front (past is_space (drop at T))) 44 (sym here_is ∙ h)) refl

  pub no_comma : (b ≡ 44 → ⊥) → drop k T ≡ apart (drop at T)
  unfolding apart
  no_comma h = past_at T at is_space is ∙ rw (ne_eqb (front (past is_space (drop at T))) 44 (λ e. h (here_is ∙ e))) refl
