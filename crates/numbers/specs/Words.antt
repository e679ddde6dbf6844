-- Words for exact values: the zeros, one, and numbers that are alike. Definitions only.
use Rattle.std.specs.Prelude.{◌≡◌, ◌⊎◌, Bool, true, false, pos, Float}
use Rattle.std.specs.Float.{fin}
use Rattle.std.specs.Float.Ieee.{le}
use Rattle.float.specs.Number.{f0, f1}

-- the zero of a sign, and one
abbrev pub zer : Bool → Float
zer s = fin s 0 (pos 0)

abbrev pub one : Float
one = fin false 1 (pos 0)

-- a zero, of either sign
abbrev pub Zero : Float → Type 0
Zero x = (s : Bool) × (x ≡ zer s)

-- the same value but for the sign of a zero
abbrev pub Alike : Float → Float → Type 0
Alike x w = (x ≡ w) ⊎ (Zero x × Zero w)

-- in 0..1
abbrev pub InUnit : Float → Type 0
InUnit x = (le f0 x ≡ true) × (le x f1 ≡ true)
