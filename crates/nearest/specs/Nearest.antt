-- nearest_point_on_curve: refusal 5 for an argument out of range, then 6 or 8, whichever the run meets first. Definitions only.
use Rattle.std.specs.Prelude.{◌&&◌}
use Rattle.float.specs.Answer.{Answer, ok, refused, unless, outcome, ◌>>=◌}
use Rattle.float.specs.Refusal.{number}
use Rattle.plane.specs.Range.{point_in_range, curve_in_range}
use Rattle.plane.specs.declared.Point.{Point}
use Rattle.plane.specs.declared.Curve.{Curve}
use Rattle.quintic.specs.Heights.{distance_form}
use Rattle.quintic.specs.declared.points.Section.{Section}
use Rattle.roots.specs.Find.{find_roots}
use Rattle.nearest.specs.Choose.{Nearest, choose_of}
use Rattle.nearest.specs.declared.NearestPoint.{NearestPoint}
use Rattle.nearest.specs.declared.NearestPoint.TheVariants as nearest

-- the document's number or values of each case of the answer
unfoldable pub nearest_answer : NearestPoint → Answer Nearest
nearest_answer (nearest.Found t d) = ok (record { t = t; distance_sq_is = d })
nearest_answer (nearest.Refused q) = refused (number q)

-- the roots of the curve of six points, and then the choice among the candidates
unfoldable pub nearest_by : Curve → Point → Section → Answer Nearest
nearest_by c p form = do
  roots ← find_roots form
  outcome (choose_of c p roots)

unfoldable pub nearest_of : Curve → Point → Answer Nearest
nearest_of c p = do
  form ← outcome (distance_form c p)
  nearest_by c p form

unfoldable pub nearest_call : Curve → Point → Answer Nearest
nearest_call c p = unless 5 (curve_in_range c && point_in_range p) (nearest_of c p)
