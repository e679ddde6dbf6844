-- fit_line of fit.rs. Definitions only.
use Rattle.std.specs.Prelude.{Float}
use Rattle.std.specs.Float.{binary64}
use Rattle.std.specs.Float.Ieee.{of_bits}
use Rattle.float.specs.Calc.{Calc, give, ◌>>=◌}
use Rattle.plane.specs.Plane.{plus, minus, times}
use Rattle.plane.specs.declared.Point.{Point}
use Rattle.plane.specs.declared.Curve.{Curve}

-- 0.33 and 0.66
abbrev pub f033 : Float
f033 = of_bits binary64 0x3fd5_1eb8_51eb_851f

abbrev pub f066 : Float
f066 = of_bits binary64 0x3fe5_1eb8_51eb_851f

unfoldable pub line_of : Point → Point → Calc Curve
line_of p1 p2 = do
  direction ← minus p2 p1
  cp1 ← plus p1 (← times direction f033)
  cp2 ← plus p1 (← times direction f066)
  give (record { start = p1; cp1 = cp1; cp2 = cp2; end = p2 })
