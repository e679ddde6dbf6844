-- So many thousandths as a number: the quotient by 1000, and its sign. Assumes nothing.
use mathlib.Core.Path.{◌≡◌, refl, sym, ap, ◌∙◌}
use mathlib.Core.Bool.{Bool, true, false}
use Prim.Native.Nat.{ℕ, ◌*◌, ◌^◌, ◌≤◌}
use native.Mathlib.Nat.{mul-pos}
use native.Mathlib.Omega.{arith}
use lib.Dec.{T, le→leb, lit<}
use lib.IntN.{pos}
use lib.Ieee.{Float, nan, inf, fin, binary64, up, down, round, div, neg, of_int, in_float, of_bits}
use lib.Ieee.Fits.{down_pos}
use lib.Ieee.Exact.{HasValue}
use lib.Ieee.Back.{round_whole}
use lib.Ieee.Scale.{round_same}
use Rattle.float.proofs.Truth.{never}
use Rattle.numbers.proofs.Zeros.{div_is}
use Rattle.numbers.proofs.Bounds.{round-neg}
use Rattle.path.specs.Decimals.{nearest_to}
use Rattle.path.specs.declared.Decimal.{Decimal}

pub exact : (t : ℕ) → t ≤ 2 ^ 53 → T (in_float binary64 (pos t))
unfolding in_float
exact t h = le→leb t (2 ^ 53) h

whole_is : (t : ℕ) → of_int binary64 (pos t) ≡ round binary64 false t 1
unfolding of_int
whole_is t = refl

thousand_is : of_bits binary64 0x408f_4000_0000_0000 ≡ fin false 125 (pos 3)
unfolding of_bits
thousand_is = refl

by_thousand : (x : Float) (t : ℕ) → HasValue x false t 1 → div binary64 x (fin false 125 (pos 3)) ≡ round binary64 false t 1000
by_thousand nan t v = absurd v
by_thousand (inf s) t v = absurd v
by_thousand (fin true m e) t v = never (sym v.0)
by_thousand (fin false m e) t v =
    div_is binary64 false m e false 124 (pos 3)
    ∙ round_same binary64 false (m * up e * 1) (125 * 2 ^ 3 * down e) t 1000 (mul-pos (lit< tt) (down_pos e)) (lit< tt) (cross (m * up e) (down e) v.1)
  where
    cross : (a d : ℕ) → a * 1 ≡ t * d → a * 1 * 1000 ≡ t * (125 * 2 ^ 3 * d)
    cross a d h = omega arith

quotient_is : (t : ℕ) → t ≤ 2 ^ 53 → div binary64 (of_int binary64 (pos t)) (of_bits binary64 0x408f_4000_0000_0000) ≡ round binary64 false t 1000
quotient_is t h = rw (whole_is t, thousand_is) (by_thousand (round binary64 false t 1) t (round_whole binary64 false t h))

pub plus_is : (d : Decimal) → d.thousandths ≤ 2 ^ 53 → d.negative ≡ false
    → div binary64 (of_int binary64 (pos d.thousandths)) (of_bits binary64 0x408f_4000_0000_0000) ≡ nearest_to d
unfolding nearest_to
plus_is d h s = quotient_is d.thousandths h ∙ ap (λ (b : Bool). round binary64 b d.thousandths 1000) (sym s)

pub minus_is : (d : Decimal) → d.thousandths ≤ 2 ^ 53 → d.negative ≡ true
    → neg (div binary64 (of_int binary64 (pos d.thousandths)) (of_bits binary64 0x408f_4000_0000_0000)) ≡ nearest_to d
unfolding nearest_to
minus_is d h s =
    ap neg (quotient_is d.thousandths h)
    ∙ sym (round-neg binary64 d.thousandths 1000)
    ∙ ap (λ (b : Bool). round binary64 b d.thousandths 1000) (sym s)
