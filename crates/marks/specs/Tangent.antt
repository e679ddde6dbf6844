-- start_tangent, end_tangent and tangent_between of fit.rs, and whether the last has a direction. Definitions only.
use Rattle.std.specs.Prelude.{List, ◌-◌, Float, Option}
use Rattle.std.specs.Float.{binary64}
use Rattle.std.specs.Float.Ieee.{of_bits}
use Rattle.float.specs.Calc.{Calc, ◌>>=◌}
use Rattle.plane.specs.Plane.{plus, minus, times, unit_of, direction_of}
use Rattle.plane.specs.declared.Point.{Point}
use Rattle.marks.specs.Marks.{count, mark_at}

-- 0.5
abbrev pub half : Float
half = of_bits binary64 0x3fe0_0000_0000_0000

unfoldable pub start_tangent : List Float → Calc Point
start_tangent ms = do unit_of (← minus (mark_at ms 1) (mark_at ms 0))

unfoldable pub end_tangent : List Float → Calc Point
end_tangent ms = do unit_of (← minus (mark_at ms (count ms - 2)) (mark_at ms (count ms - 1)))

-- half the sum of the two legs about p2
unfoldable pub between : Point → Point → Point → Calc Point
between p1 p2 p3 = do
  v1 ← minus p1 p2
  v2 ← minus p2 p3
  times (← plus v1 v2) half

unfoldable pub tangent_between : Point → Point → Point → Calc Point
tangent_between p1 p2 p3 = do unit_of (← between p1 p2 p3)

unfoldable pub direction_between : Point → Point → Point → Calc (Option Point)
direction_between p1 p2 p3 = do direction_of (← between p1 p2 p3)

-- the tangent along the chord from p to q
unfoldable pub along : Point → Point → Calc Point
along p q = do unit_of (← minus q p)
