-- Finite points, and the range of coordinates for refusal 5. Definitions only.
use Rattle.std.specs.Prelude.{Bool, ◌&&◌, Float}
use Rattle.std.specs.Float.{binary64}
use Rattle.std.specs.Float.Ieee.{of_bits, fits, le}
use Rattle.float.specs.Number.{finite, abs}
use Rattle.plane.specs.declared.Point.{Point}
use Rattle.plane.specs.declared.Curve.{Curve}

-- 1,000,000
abbrev pub million : Float
million = of_bits binary64 0x412e_8480_0000_0000

-- finite and of magnitude at most m
abbrev pub up_to : Float → Float → Bool
up_to m x = finite x && le (abs x) m

-- a value that an `f64` holds, as every number of a caller's is; finite, and of magnitude at most 1,000,000
unfoldable pub coordinate : Float → Bool
coordinate x = fits binary64 x && up_to million x

unfoldable pub point_in_range : Point → Bool
point_in_range p = coordinate p.x && coordinate p.y

unfoldable pub curve_in_range : Curve → Bool
curve_in_range c = point_in_range c.start && (point_in_range c.cp1 && (point_in_range c.cp2 && point_in_range c.end))

-- both coordinates are finite
unfoldable pub point_finite : Point → Bool
point_finite p = finite p.x && finite p.y
