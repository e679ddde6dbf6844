-- The sign of a sum of squares. Where a number that is not negative is at most a finite one it is finite: one comparison tells both. Assumes nothing.
use mathlib.Core.Path.{◌≡◌, refl, sym, ap, ◌∙◌, subst}
use mathlib.Core.Bool.{Bool, true, false, cond, ◌&&◌, ◌||◌}
use Prim.Native.Nat.{ℕ, zero, suc, ◌+◌, ◌*◌, ◌^◌, ◌≤◌}
use native.Mathlib.Nat.{le_of_eq, le_of_lt}
use native.Mathlib.Omega.{arith}
use lib.Dec.{T, ltb, eqb, ltb→lt, eqb→eq}
use lib.Ieee.{Float, nan, inf, fin, binary64, prec, emax, low, up, down, odd, units, round, add, sum, mul, lt, eq, le, below, level, unlike}
use lib.Ieee.Fits.{round_is}
use Rattle.float.specs.Number.{finite}
use Rattle.float.proofs.Truth.{never}
use Rattle.float.proofs.Strict.{Fin}

unfoldable pub negative : Float → Bool
negative nan = false
negative (inf s) = s
negative (fin s m e) = s

odd_sign : (d : ℕ) (s : Bool) (q k l : ℕ) → negative (odd d s q k l) ≡ s
unfolding odd negative
odd_sign d s zero k l = refl
odd_sign d s (suc q) k l = refl

units-sign : (s : Bool) (q k : ℕ) → negative (units binary64 s q k) ≡ s
unfolding units negative
units-sign s q k = go (ltb (q * 2 ^ k) (2 ^ (low binary64 + suc (emax binary64))))
  where
    go : (b : Bool) → negative (cond b (odd (suc (prec binary64)) s q k (low binary64)) (inf s)) ≡ s
    go true = odd_sign (suc (prec binary64)) s q k (low binary64)
    go false = refl

pub round-sign : (s : Bool) (num den : ℕ) → negative (round binary64 s num den) ≡ s
round-sign s num den = ap negative (round_is binary64 s num den) ∙ units-sign s _ _

unlike_self : (s : Bool) → unlike s s ≡ false
unlike_self true = refl
unlike_self false = refl

pub square_sign : (x : Float) → negative (mul binary64 x x) ≡ false
unfolding mul negative
square_sign nan = refl
square_sign (inf s) = unlike_self s
square_sign (fin s m e) = round-sign (unlike s s) (m * up e * (m * up e)) (down e * down e) ∙ unlike_self s

pub add-sign : (x y : Float) → negative x ≡ false → negative y ≡ false → negative (add binary64 x y) ≡ false
unfolding add sum negative
add-sign nan y h k = refl
add-sign (inf true) y h k = never (sym h)
add-sign (inf false) nan h k = refl
add-sign (inf false) (inf true) h k = refl
add-sign (inf false) (inf false) h k = refl
add-sign (inf false) (fin t n d) h k = refl
add-sign (fin true m e) y h k = never (sym h)
add-sign (fin false m e) nan h k = refl
add-sign (fin false m e) (inf t) h k = k
add-sign (fin false m e) (fin true n d) h k = never (sym k)
add-sign (fin false m e) (fin false n d) h k = round-sign false (m * up e * down d + n * up d * down e) (down e * down d)

not_below : (a b : ℕ) → b ≤ a → ltb a b ≡ false
not_below a b h = go (ltb a b) refl
  where
    go : (k : Bool) → ltb a b ≡ k → ltb a b ≡ false
    go true e = absurd (omega (arith, h, ltb→lt a b (subst T (sym e) tt)))
    go false e = e

-- a ≤ b by its two tests, of plain numbers
at_most : (a b : ℕ) → (ltb a b || (eqb a b && true)) ≡ true → a ≤ b
at_most a b h = go (ltb a b) (eqb a b) refl refl h
  where
    go : (k l : Bool) → ltb a b ≡ k → eqb a b ≡ l → (k || (l && true)) ≡ true → a ≤ b
    go true l e f g = le_of_lt (ltb→lt a b (subst T (sym e) tt))
    go false true e f g = le_of_eq (eqb→eq a b (subst T (sym f) tt))
    go false false e f g = never g

both_zero : (a b : ℕ) → (eqb a b && eqb a 0) ≡ true → b + a ≤ 0
both_zero a b h = go (eqb a b) (eqb a 0) refl refl h
  where
    go : (k l : Bool) → eqb a b ≡ k → eqb a 0 ≡ l → (k && l) ≡ true → b + a ≤ 0
    go true true e f g = omega (arith, eqb→eq a b (subst T (sym e) tt), eqb→eq a 0 (subst T (sym f) tt))
    go true false e f g = never g
    go false l e f g = never g

pub not_above : (t : Bool) (a b : ℕ) → (below false a t b || level false a t b) ≡ true → below t b false a ≡ false
not_above true a b h = not_below 0 (b + a) (both_zero a b h)
not_above false a b h = not_below b a (at_most a b h)

-- x, not negative, is at most the finite b: it is finite, and b is not below it
pub held : (x b : Float) → negative x ≡ false → Fin b → le x b ≡ true → Fin x × (lt b x ≡ false)
unfolding negative finite le lt eq
held nan b n f h = never h
held (inf true) b n f h = never (sym n)
held (inf false) nan n f h = never f
held (inf false) (inf t) n f h = never f
held (inf false) (fin t k d) n f h = never h
held (fin true m e) b n f h = never (sym n)
held (fin false m e) nan n f h = never f
held (fin false m e) (inf t) n f h = never f
held (fin false m e) (fin t k d) n f h = (refl, not_above t _ _ h)
