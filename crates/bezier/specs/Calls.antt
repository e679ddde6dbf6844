-- The public calls on a single curve: refusal 5 for an argument out of range, then what the run comes to. Definitions only.
use Rattle.std.specs.Prelude.{◌&&◌, ℕ, zero, suc, ltb, leb, Float}
use Rattle.float.specs.Number.{finite}
use Rattle.float.specs.Answer.{Answer, unless, outcome}
use Rattle.plane.specs.Range.{point_in_range, curve_in_range}
use Rattle.plane.specs.declared.Point.{Point}
use Rattle.plane.specs.declared.Curve.{Curve}
use Rattle.cubic.specs.Basis.{basis, casteljau2, casteljau3, casteljau4, coefficients_of}
use Rattle.cubic.specs.Subdivide.{curve, subdivide4_of}
use Rattle.newton.specs.Newton.{refine}
use Rattle.cubic.specs.declared.eval.Coefficients.{Coefficients}
use Rattle.cubic.specs.declared.split.Halves.{Halves}

unfoldable pub basis_call : Float → Point → Point → Point → Point → Answer Point
basis_call t w1 w2 w3 w4 = unless 5 (finite t && curve_in_range (curve w1 w2 w3 w4)) (outcome (basis t w1 w2 w3 w4))

unfoldable pub casteljau4_call : Float → Point → Point → Point → Point → Answer Point
casteljau4_call t w1 w2 w3 w4 = unless 5 (finite t && curve_in_range (curve w1 w2 w3 w4)) (outcome (casteljau4 t w1 w2 w3 w4))

unfoldable pub casteljau3_call : Float → Point → Point → Point → Answer Point
casteljau3_call t w1 w2 w3 = unless 5 (finite t && (point_in_range w1 && (point_in_range w2 && point_in_range w3))) (outcome (casteljau3 t w1 w2 w3))

unfoldable pub casteljau2_call : Float → Point → Point → Answer Point
casteljau2_call t w1 w2 = unless 5 (finite t && (point_in_range w1 && point_in_range w2)) (outcome (casteljau2 t w1 w2))

-- the coordinate of a dimension, 0 or 1
unfoldable pub coordinate_of : ℕ → Point → Float
coordinate_of zero p = p.x
coordinate_of (suc d) p = p.y

unfoldable pub coefficients_call : ℕ → Point → Point → Point → Point → Answer Coefficients
coefficients_call d w1 w2 w3 w4 =
    unless 5 (ltb d 2 && curve_in_range (curve w1 w2 w3 w4))
    (outcome (coefficients_of (coordinate_of d w1) (coordinate_of d w2) (coordinate_of d w3) (coordinate_of d w4)))

unfoldable pub subdivide4_call : Float → Point → Point → Point → Point → Answer Halves
subdivide4_call t w1 w2 w3 w4 = unless 5 (finite t && curve_in_range (curve w1 w2 w3 w4)) (outcome (subdivide4_of t w1 w2 w3 w4))

-- nearest_point_on_curve_newton_raphson_with_estimate: at most 64 rounds
unfoldable pub refine_call : Curve → Point → Float → ℕ → Answer Float
refine_call c p t n = unless 5 (curve_in_range c && (point_in_range p && (finite t && leb n 64))) (outcome (refine c p t n))
