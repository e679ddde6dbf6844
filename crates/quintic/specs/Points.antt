-- de_casteljau_n of basis.rs and subdivide_n of subdivide.rs, at six points. Definitions only.
use Rattle.std.specs.Prelude.{Float}
use Rattle.float.specs.Calc.{Calc, give, ◌>>=◌}
use Rattle.plane.specs.declared.Point.{Point}
use Rattle.cubic.specs.Basis.{casteljau2, casteljau4}
use Rattle.quintic.specs.declared.points.Section.{Section}
use Rattle.quintic.specs.declared.points.Halves.{Halves}

abbrev pub section : Point → Point → Point → Point → Point → Point → Section
section w1 w2 w3 w4 w5 w6 = record { w1 = w1; w2 = w2; w3 = w3; w4 = w4; w5 = w5; w6 = w6 }

unfoldable pub casteljau5 : Float → Point → Point → Point → Point → Point → Calc Point
casteljau5 t w1 w2 w3 w4 w5 = do
  wn1 ← casteljau2 t w1 w2
  wn2 ← casteljau2 t w2 w3
  wn3 ← casteljau2 t w3 w4
  wn4 ← casteljau2 t w4 w5
  casteljau4 t wn1 wn2 wn3 wn4

unfoldable pub casteljau6 : Float → Section → Calc Point
casteljau6 t s = do
  wn1 ← casteljau2 t s.w1 s.w2
  wn2 ← casteljau2 t s.w2 s.w3
  wn3 ← casteljau2 t s.w3 s.w4
  wn4 ← casteljau2 t s.w4 s.w5
  wn5 ← casteljau2 t s.w5 s.w6
  casteljau5 t wn1 wn2 wn3 wn4 wn5

-- the points of de Casteljau's triangle, along its two sides
unfoldable pub subdivide6_of : Float → Section → Calc Halves
subdivide6_of t s = do
  a1 ← casteljau2 t s.w1 s.w2
  a2 ← casteljau2 t s.w2 s.w3
  a3 ← casteljau2 t s.w3 s.w4
  a4 ← casteljau2 t s.w4 s.w5
  a5 ← casteljau2 t s.w5 s.w6
  b1 ← casteljau2 t a1 a2
  b2 ← casteljau2 t a2 a3
  b3 ← casteljau2 t a3 a4
  b4 ← casteljau2 t a4 a5
  c1 ← casteljau2 t b1 b2
  c2 ← casteljau2 t b2 b3
  c3 ← casteljau2 t b3 b4
  d1 ← casteljau2 t c1 c2
  d2 ← casteljau2 t c2 c3
  p ← casteljau2 t d1 d2
  give (record { left = section s.w1 a1 b1 c1 d1 p; right = section p d2 c3 b4 a5 s.w6 })
