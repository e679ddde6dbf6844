-- A number near a square root, operation by operation: what a loop may work out first, for `root_by` to check. Nothing says how near it is; no promise
-- but `guess`'s speaks of it. Definitions only.
use Rattle.std.specs.Prelude.{ℕ, ◌-◌, ◌/◌, ◌%◌, ◌^◌, cond, Float}
use Rattle.std.specs.Float.Ieee as Ieee
use Rattle.std.specs.Float.{binary64}
use Rattle.std.specs.Float.Ieee.{of_bits, to_bits, lt}
use Rattle.float.specs.Number.{f0}

infixl 65 ◌⊕◌ ◌⊖◌
infixl 70 ◌⊗◌
abbrev pub ◌⊕◌ : Float → Float → Float
x ⊕ y = Ieee.add binary64 x y

abbrev pub ◌⊖◌ : Float → Float → Float
x ⊖ y = Ieee.sub binary64 x y

abbrev pub ◌⊗◌ : Float → Float → Float
x ⊗ y = Ieee.mul binary64 x y

-- 0.5, 1.5 and 2^27 + 1
abbrev pub half : Float
half = of_bits binary64 0x3fe0_0000_0000_0000

abbrev pub one_and_half : Float
one_and_half = of_bits binary64 0x3ff8_0000_0000_0000

abbrev pub splitter : Float
splitter = of_bits binary64 0x41a0_0000_0200_0000

-- the bit pattern of an x above zero, and that of 1 for any other
unfoldable pub bits_of : Float → ℕ
bits_of x = cond (lt f0 x) (to_bits binary64 x) 0x3ff0_0000_0000_0000

-- a first guess at 1 / √x: half the pattern, taken from a constant
unfoldable pub first_of : Float → Float
first_of x = of_bits binary64 (0x5fe6_eb50_c7b5_37a9 - bits_of x / 2 % 2 ^ 62)

-- a step of Newton's method for 1 / √x, where h is x / 2
unfoldable pub nearer : Float → Float → Float
nearer h y = y ⊗ one_and_half ⊖ h ⊗ y ⊗ (y ⊗ y)

-- 1 / √x after three steps
unfoldable pub inverse_of : Float → Float
inverse_of x = nearer (x ⊗ half) (nearer (x ⊗ half) (nearer (x ⊗ half) (first_of x)))

-- the upper 26 digits of g
unfoldable pub high_of : Float → Float
high_of g = g ⊗ splitter ⊖ (g ⊗ splitter ⊖ g)

-- what is left of x beside the square of high + low, from the larger products to the smaller
unfoldable pub rest_of : Float → Float → Float → Float
rest_of x high low = x ⊖ high ⊗ high ⊖ (high ⊕ high) ⊗ low ⊖ low ⊗ low

-- g is x times y, near √x; one step more, from what is left of x
unfoldable pub step_of : Float → Float → Float → Float
step_of x y g = g ⊕ rest_of x (high_of g) (g ⊖ high_of g) ⊗ (y ⊗ half)

unfoldable pub guess : Float → Float
guess x = step_of x (inverse_of x) (x ⊗ inverse_of x)
