-- basis.rs, operation by operation. Definitions only.
use Rattle.std.specs.Prelude.{Float}
use Rattle.float.specs.Number.{f1, f3, f6}
use Rattle.float.specs.Calc.{Calc, give, ◌>>=◌, ◌+!◌, ◌-!◌, ◌*!◌}
use Rattle.plane.specs.Plane.{plus, times}
use Rattle.plane.specs.declared.Point.{Point}
use Rattle.plane.specs.declared.Curve.{Curve}
use Rattle.cubic.specs.declared.eval.Coefficients.{Coefficients}

-- bezier_coefficients, of one coordinate of the four points
unfoldable pub coefficients_of : Float → Float → Float → Float → Calc Coefficients
coefficients_of w1 w2 w3 w4 = do
  a ← (← (← w4 -! (← f3 *! w3)) +! (← f3 *! w2)) -! w1
  b ← (← (← f3 *! w3) -! (← f6 *! w2)) +! (← f3 *! w1)
  c ← (← f3 *! w2) -! (← f3 *! w1)
  give (record { a = a; b = b; c = c; d = w1 })

-- basis: w1·(1-t)³ + w2·3·(1-t)²·t + w3·3·(1-t)·t² + w4·t³, each product and sum from the left
unfoldable pub basis : Float → Point → Point → Point → Point → Calc Point
basis t w1 w2 w3 w4 = do
  t-squared ← t *! t
  t-cubed ← t-squared *! t
  one-minus-t ← f1 -! t
  one-minus-t-squared ← one-minus-t *! one-minus-t
  one-minus-t-cubed ← one-minus-t-squared *! one-minus-t
  a ← times w1 one-minus-t-cubed
  b ← times (← times (← times w2 f3) one-minus-t-squared) t
  c ← times (← times (← times w3 f3) one-minus-t) t-squared
  d ← times w4 t-cubed
  plus (← plus (← plus a b) c) d

-- a curve's point_at_pos
unfoldable pub point_at : Curve → Float → Calc Point
point_at c t = basis t c.start c.cp1 c.cp2 c.end

unfoldable pub casteljau2 : Float → Point → Point → Calc Point
casteljau2 t w1 w2 = do plus (← times w1 (← f1 -! t)) (← times w2 t)

unfoldable pub casteljau3 : Float → Point → Point → Point → Calc Point
casteljau3 t w1 w2 w3 = do
  wn1 ← casteljau2 t w1 w2
  wn2 ← casteljau2 t w2 w3
  casteljau2 t wn1 wn2

unfoldable pub casteljau4 : Float → Point → Point → Point → Point → Calc Point
casteljau4 t w1 w2 w3 w4 = do
  wn1 ← casteljau2 t w1 w2
  wn2 ← casteljau2 t w2 w3
  wn3 ← casteljau2 t w3 w4
  casteljau3 t wn1 wn2 wn3
