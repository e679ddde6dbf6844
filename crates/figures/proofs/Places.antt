-- The four texts of the places behind the point, and the text of a whole number. Assumes nothing.
use mathlib.Core.Path.{◌≡◌, refl, sym}
use mathlib.Core.Bool.{Bool, true, false, cond}
use mathlib.Core.List.{List, [], ◌∷◌}
use Prim.Native.Nat.{ℕ, ◌+◌, ◌/◌, ◌%◌, ◌≤◌}
use native.Mathlib.Nat.{add-zero}
use native.Mathlib.Omega.{arith}
use borrow.Author.Tests.{eq-eqb, ne_eqb}
use lib.Dec.{eqb}
use lib.ListN.{length, length-append}
use Rattle.text.specs.Text.{decimal}
use Rattle.text.specs.Put.{Put}
use Rattle.text.proofs.Stores.{next}
use Rattle.path.specs.Decimals.{figure, places_text, sign_text, decimal_text}
use Rattle.path.specs.declared.Decimal.{Decimal}

-- ---- the places

pub none : (r : ℕ) → r ≡ 0 → places_text r ≡ []
unfolding places_text
none r h = rw (eq-eqb r 0 h)

pub one : (r : ℕ) → (r ≡ 0 → ⊥) → r % 100 ≡ 0 → places_text r ≡ 46 ∷ figure (r / 100) ∷ []
unfolding places_text
one r h k = rw (ne_eqb r 0 h, eq-eqb (r % 100) 0 k)

pub two : (r : ℕ) → (r ≡ 0 → ⊥) → (r % 100 ≡ 0 → ⊥) → r % 10 ≡ 0 → places_text r ≡ 46 ∷ figure (r / 100) ∷ figure (r / 10 % 10) ∷ []
unfolding places_text
two r h k l = rw (ne_eqb r 0 h, ne_eqb (r % 100) 0 k, eq-eqb (r % 10) 0 l)

pub three : (r : ℕ) → (r ≡ 0 → ⊥) → (r % 100 ≡ 0 → ⊥) → (r % 10 ≡ 0 → ⊥) → places_text r ≡ 46 ∷ figure (r / 100) ∷ figure (r / 10 % 10) ∷ figure (r % 10) ∷ []
unfolding places_text
three r h k l = rw (ne_eqb r 0 h, ne_eqb (r % 100) 0 k, ne_eqb (r % 10) 0 l)

-- ---- the whole

pub length-text : (d : Decimal) → length (decimal_text d) ≡ length (sign_text d.negative) + (length (decimal (d.thousandths / 1000)) + length (places_text (d.thousandths % 1000)))
unfolding decimal_text
length-text d = simp length-append

-- nothing is put
pub put-nothing : (l : List ℕ) (at : ℕ) (xs : List ℕ) → xs ≡ [] → Put l at xs l at
put-nothing l at xs e = rw e (record { end = sym (add-zero at); out = refl })

-- the three parts, one behind the other
pub put-parts : (d : Decimal) {l l₁ l₂ l₃ : List ℕ} {at e₁ e₂ e₃ : ℕ} → Put l at (sign_text d.negative) l₁ e₁ → Put l₁ e₁ (decimal (d.thousandths / 1000)) l₂ e₂
    → Put l₂ e₂ (places_text (d.thousandths % 1000)) l₃ e₃ → Put l at (decimal_text d) l₃ e₃
unfolding decimal_text
put-parts d p q r = next p (next q r)

-- ---- how long at most

pub short-sign : (s : Bool) → length (sign_text s) ≤ 1
short-sign true = omega arith
short-sign false = omega arith

pub short-places : (r : ℕ) → length (places_text r) ≤ 4
unfolding places_text
short-places r = go (eqb r 0) (eqb (r % 100) 0) (eqb (r % 10) 0)
  where
    go : (a b c : Bool) → length (cond a [] (cond b (46 ∷ figure (r / 100) ∷ []) (cond c (46 ∷ figure (r / 100) ∷ figure (r / 10 % 10) ∷ []) (46 ∷ figure (r / 100) ∷ figure (r / 10 % 10) ∷ figure (r % 10) ∷ [])))) ≤ 4
    go true b c = omega arith
    go false true c = omega arith
    go false false true = omega arith
    go false false false = omega arith
