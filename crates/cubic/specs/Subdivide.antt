-- subdivide4 of subdivide.rs: the points of de Casteljau's triangle, along its two sides. Definitions only.
use Rattle.std.specs.Prelude.{Float}
use Rattle.float.specs.Calc.{Calc, give, ◌>>=◌}
use Rattle.plane.specs.declared.Point.{Point}
use Rattle.plane.specs.declared.Curve.{Curve}
use Rattle.cubic.specs.declared.split.Halves.{Halves}
use Rattle.cubic.specs.Basis.{casteljau2}

abbrev pub curve : Point → Point → Point → Point → Curve
curve w1 w2 w3 w4 = record { start = w1; cp1 = w2; cp2 = w3; end = w4 }

unfoldable pub subdivide4_of : Float → Point → Point → Point → Point → Calc Halves
subdivide4_of t w1 w2 w3 w4 = do
  wn1 ← casteljau2 t w1 w2
  wn2 ← casteljau2 t w2 w3
  wn3 ← casteljau2 t w3 w4
  wnn1 ← casteljau2 t wn1 wn2
  wnn2 ← casteljau2 t wn2 wn3
  p ← casteljau2 t wnn1 wnn2
  give (record { left = curve w1 wn1 wnn1 p; right = curve p wnn2 wn3 w4 })
