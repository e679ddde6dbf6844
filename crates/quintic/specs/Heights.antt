-- distance_in_bezier_form of nearest_point_bezier_root_finder.rs. Definitions only.
use Rattle.std.specs.Prelude.{Float}
use Rattle.std.specs.Float.{binary64}
use Rattle.std.specs.Float.Ieee.{of_bits}
use Rattle.float.specs.Number.{f0, f1, f3}
use Rattle.float.specs.Calc.{Calc, give, ◌>>=◌, ◌+!◌, ◌*!◌}
use Rattle.plane.specs.Plane.{at, minus, times, dot_of}
use Rattle.plane.specs.declared.Point.{Point}
use Rattle.plane.specs.declared.Curve.{Curve}
use Rattle.quintic.specs.Points.{section}
use Rattle.quintic.specs.declared.points.Section.{Section}
use Rattle.quintic.specs.declared.numbers.Six.{Six}
use Rattle.quintic.specs.declared.heights.Row.{Row}
use Rattle.quintic.specs.declared.heights.Offsets.{Offsets}

-- 0.1, 0.2, 0.3, 0.4, 0.6 and 0.8
abbrev pub tenth : Float
tenth = of_bits binary64 0x3fb9_9999_9999_999a

abbrev pub fifth : Float
fifth = of_bits binary64 0x3fc9_9999_9999_999a

abbrev pub three_tenths : Float
three_tenths = of_bits binary64 0x3fd3_3333_3333_3333

abbrev pub two_fifths : Float
two_fifths = of_bits binary64 0x3fd9_9999_9999_999a

abbrev pub three_fifths : Float
three_fifths = of_bits binary64 0x3fe3_3333_3333_3333

abbrev pub four_fifths : Float
four_fifths = of_bits binary64 0x3fe9_9999_9999_999a

abbrev pub row : Float → Float → Float → Float → Row
row i0 i1 i2 i3 = record { i0 = i0; i1 = i1; i2 = i2; i3 = i3 }

-- the Rust's table Z: in row j at place i the weight C(2,j)·C(3,i) / C(5,i+j)
abbrev pub z0 : Row
z0 = row f1 three_fifths three_tenths tenth

abbrev pub z1 : Row
z1 = row two_fifths three_fifths three_fifths two_fifths

abbrev pub z2 : Row
z2 = row tenth three_tenths three_fifths f1

-- from the point p to each of the curve's points
unfoldable pub offsets_of : Curve → Point → Calc Offsets
offsets_of c p = do
  d0 ← minus c.start p
  d1 ← minus c.cp1 p
  d2 ← minus c.cp2 p
  d3 ← minus c.end p
  give (record { d0 = d0; d1 = d1; d2 = d2; d3 = d3 })

-- the dot products of (to - from)·3 and each offset, weighted
unfoldable pub products_of : Point → Point → Offsets → Row → Calc Row
products_of from to d z = do
  next ← times (← minus to from) f3
  i0 ← (← dot_of next d.d0) *! z.i0
  i1 ← (← dot_of next d.d1) *! z.i1
  i2 ← (← dot_of next d.d2) *! z.i2
  i3 ← (← dot_of next d.d3) *! z.i3
  give (row i0 i1 i2 i3)

-- height k sums the places i of the rows j with i + j = k, from plus zero on and in rising i
unfoldable pub sums_of : Row → Row → Row → Calc Six
sums_of j0 j1 j2 = do
  y1 ← f0 +! j0.i0
  y2 ← (← f0 +! j1.i0) +! j0.i1
  y3 ← (← (← f0 +! j2.i0) +! j1.i1) +! j0.i2
  y4 ← (← (← f0 +! j2.i1) +! j1.i2) +! j0.i3
  y5 ← (← f0 +! j2.i2) +! j1.i3
  y6 ← f0 +! j2.i3
  give (record { y1 = y1; y2 = y2; y3 = y3; y4 = y4; y5 = y5; y6 = y6 })

-- the six heights by the rows of a table
unfoldable pub weighted_by : Curve → Offsets → Row → Row → Row → Calc Six
weighted_by c d z0 z1 z2 = do
  j0 ← products_of c.start c.cp1 d z0
  j1 ← products_of c.cp1 c.cp2 d z1
  j2 ← products_of c.cp2 c.end d z2
  sums_of j0 j1 j2

-- the heights over 0/5, 1/5, .. 5/5
unfoldable pub section_of : Six → Section
section_of h = section (at f0 h.y1) (at fifth h.y2) (at two_fifths h.y3) (at three_fifths h.y4) (at four_fifths h.y5) (at f1 h.y6)

unfoldable pub distance_form : Curve → Point → Calc Section
distance_form c p = do
  d ← offsets_of c p
  h ← weighted_by c d z0 z1 z2
  give (section_of h)
