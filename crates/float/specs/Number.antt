-- Numbers of binary64 and Rust's small functions on them, over the values of the logic's IEEE 754 (`lib.Ieee`). Definitions only.
use Rattle.std.specs.Prelude.{Bool, true, false, cond, Float}
use Rattle.std.specs.Float.{nan, inf, fin, binary64}
use Rattle.std.specs.Float.Ieee.{of_bits, is_nan, lt, neg}

-- 0, 1, 2, 3 and 6, by their bit patterns
abbrev pub f0 : Float
f0 = of_bits binary64 0

abbrev pub f1 : Float
f1 = of_bits binary64 0x3ff0_0000_0000_0000

abbrev pub f2 : Float
f2 = of_bits binary64 0x4000_0000_0000_0000

abbrev pub f3 : Float
f3 = of_bits binary64 0x4008_0000_0000_0000

abbrev pub f6 : Float
f6 = of_bits binary64 0x4018_0000_0000_0000

-- neither NaN nor an infinity
unfoldable pub finite : Float → Bool
finite nan = false
finite (inf s) = false
finite (fin s m e) = true

-- f64::abs: the sign is dropped, of a zero too
unfoldable pub abs : Float → Float
abs nan = nan
abs (inf s) = inf false
abs (fin s m e) = fin false m e

-- f64::signum: 1 at plus zero, -1 at minus zero, and NaN at a NaN
unfoldable pub signum : Float → Float
signum nan = nan
signum (inf s) = cond s (neg f1) f1
signum (fin s m e) = cond s (neg f1) f1

-- x.clamp(0.0, 1.0): minus zero and a NaN stay
unfoldable pub clamp01 : Float → Float
clamp01 x = cond (lt x f0) f0 (cond (lt f1 x) f1 x)

-- b, and a where b is a NaN
unfoldable pub number_or : Float → Float → Float
number_or b a = cond (is_nan b) a b

-- f64::max and f64::min: a NaN gives way to the other. Of equal numbers the second is taken, which settles the sign of a zero that Rust leaves open.
unfoldable pub max_of : Float → Float → Float
max_of a b = cond (lt b a) a (number_or b a)

unfoldable pub min_of : Float → Float → Float
min_of a b = cond (lt a b) a (number_or b a)
