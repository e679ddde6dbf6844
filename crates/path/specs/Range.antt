-- The refusals of path data, and the range of its numbers. Definitions only.
use Rattle.std.specs.Prelude.{ℕ, zero, suc, Bool, true, ◌&&◌, Float}
use Rattle.std.specs.Float.{binary64}
use Rattle.std.specs.Float.Ieee.{of_bits, le}
use Rattle.float.specs.Number.{abs}
use Rattle.plane.specs.declared.Point.{Point}
use Rattle.plane.specs.declared.Curve.{Curve}

-- ---- refusals: room that is short; a number that is not finite; one that is too large; a text that the grammar does not have; curves that do not meet

abbrev pub no_room : ℕ
no_room = 4

abbrev pub not_finite : ℕ
not_finite = 5

abbrev pub too_large : ℕ
too_large = 10

abbrev pub no_path : ℕ
no_path = 11

abbrev pub not_joined : ℕ
not_joined = 12

-- ---- numbers

-- 1,000,000,000
abbrev pub billion : Float
billion = of_bits binary64 0x41cd_cd65_0000_0000

-- not above it in magnitude
abbrev pub within : Float → Bool
within x = le (abs x) billion

abbrev pub point_within : Point → Bool
point_within p = within p.x && within p.y

unfoldable pub curve_within : Curve → Bool
curve_within c = point_within c.start && (point_within c.cp1 && (point_within c.cp2 && point_within c.end))

-- a test of 0, 1, .. n - 1
unfoldable pub every : ℕ → (ℕ → Bool) → Bool
every zero p = true
every (suc n) p = every n p && p n
