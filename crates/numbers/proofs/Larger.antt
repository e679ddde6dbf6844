-- Finite values with the sign clear, as squares are: which is larger, and that two of the same size are one value. Assumes nothing.
use Prim.Native.Nat.{ℕ, zero, suc, ◌*◌, ◌≤◌}
use native.Mathlib.Omega.{arith}
use mathlib.Core.Path.{◌≡◌, refl, sym, ◌∙◌}
use mathlib.Core.Bool.{Bool, true, false}
use lib.Dec.{T}
use lib.Ieee.{Float, nan, inf, fin, Format, up, down, fits, lt, le}
use Rattle.float.specs.Number.{f0}
use Rattle.float.proofs.Truth.{true-false}
use Rattle.float.proofs.Signs.{negative, held}
use Rattle.float.proofs.Ranks.{Le, says}
use Rattle.root.specs.Root.{plain}
use Rattle.root.proofs.Cases.{above-lt}
use Rattle.numbers.proofs.Keeps.{fin_same}
use Rattle.numbers.proofs.Zeros.{f0_is, zero_is}
use Rattle.numbers.proofs.Order.{le_tr, not_lt}
use Rattle.numbers.proofs.Plain.{plain-fin}

clear : (x : Float) → T (plain x) → negative x ≡ false
unfolding negative
clear nan p = absurd p
clear (inf s) p = absurd p
clear (fin true m e) p = absurd p
clear (fin false m e) p = refl

-- the two orders exclude each other
pub le_not_lt : (x y : Float) → T (plain x) → T (plain y) → Le x y → lt y x ≡ true → ⊥
le_not_lt x y p q h l = true-false (lt y x) l (held x y (clear x p) (plain-fin y q) h).1

pub le-then-lt : (x y z : Float) → T (plain x) → T (plain y) → T (plain z) → Le x y → lt y z ≡ true → lt x z ≡ true
le-then-lt x y z p q r h l = go (lt x z) refl
  where
    go : (b : Bool) → lt x z ≡ b → lt x z ≡ true
    go true e = e
    go false e = absurd (le_not_lt z y r q (le_tr z x y (not_lt x z (plain-fin x p) (plain-fin z r) e) h) l)

-- one value of a size
same_size : (a b : ℕ) → a ≤ b → b ≤ a → a ≡ b
same_size a b h g = omega arith

pub plain_same : (f : Format) (x y : Float) → T (fits f x) → T (fits f y) → T (plain x) → T (plain y) → Le x y → Le y x → x ≡ y
unfolding le
plain_same f nan y F G p q h g = absurd p
plain_same f (inf s) y F G p q h g = absurd p
plain_same f (fin true m e) y F G p q h g = absurd p
plain_same f (fin false m e) nan F G p q h g = absurd q
plain_same f (fin false m e) (inf t) F G p q h g = absurd q
plain_same f (fin false m e) (fin true n d) F G p q h g = absurd q
plain_same f (fin false m e) (fin false n d) F G p q h g =
    fin_same f false m e n d F G (same_size (m * up e * down d) (n * up d * down e) (says false (m * up e * down d) false (n * up d * down e) h) (says false (n * up d * down e) false (m * up e * down d) g))

-- what is not above zero is zero
pub none_is : (f : Format) (x : Float) → T (fits f x) → T (plain x) → lt f0 x ≡ false → f0 ≡ x
none_is f nan F p h = absurd p
none_is f (inf s) F p h = absurd p
none_is f (fin true m e) F p h = absurd p
none_is f (fin false zero e) F p h = f0_is ∙ sym (zero_is f false e F)
none_is f (fin false (suc m) e) F p h = absurd (true-false (lt f0 (fin false (suc m) e)) (rw f0_is (above-lt m e)) h)
