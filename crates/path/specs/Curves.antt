-- The curves of a path. Definitions only.
use Rattle.std.specs.Prelude.{Bool, true, not, ◌&&◌, cond, List, [], ◌∷◌, Float}
use Rattle.plane.specs.Plane.{at, equal}
use Rattle.plane.specs.declared.Point.{Point}
use Rattle.plane.specs.declared.Curve.{Curve}
use Rattle.marks.specs.Line.{line_of}
use Rattle.path.specs.Decimals.{small, nearest_to}
use Rattle.path.specs.Grammar.{Place, Segment, line, curve, Path}

-- ---- numbers not above 1,000,000,000

unfoldable pub place_small : Place → Bool
place_small p = small p.x && small p.y

unfoldable pub segment_small : Segment → Bool
segment_small (line p) = place_small p
segment_small (curve a b c) = place_small a && (place_small b && place_small c)

unfoldable pub segments_small : List Segment → Bool
segments_small [] = true
segments_small (g ∷ gs) = segment_small g && segments_small gs

unfoldable pub path_small : Path → Bool
path_small p = place_small p.start && segments_small p.segments

-- ---- curves

unfoldable pub point_at : Place → Point
point_at p = at (nearest_to p.x) (nearest_to p.y)

-- from the point p on: a line is that of two marks
unfoldable pub curve_from : Point → Segment → Curve
curve_from p (line q) = (line_of p (point_at q)).val
curve_from p (curve a b c) = record { start = p; cp1 = point_at a; cp2 = point_at b; end = point_at c }

-- Z at the point p draws a line back to m, unless the path is there already
unfoldable pub closing : Bool → Point → Point → List Curve
closing z m p = cond (z && not (equal p m)) ((line_of p m).val ∷ []) []

-- the curves of the segments from p on, and of Z
unfoldable pub curves_from : Bool → Point → Point → List Segment → List Curve
curves_from z m p [] = closing z m p
curves_from z m p (g ∷ gs) = curve_from p g ∷ curves_from z m (curve_from p g).end gs

unfoldable pub curves_of : Path → List Curve
curves_of p = curves_from p.closed (point_at p.start) (point_at p.start) p.segments

-- the eight numbers of each curve
unfoldable pub eights : List Curve → List Float
eights [] = []
eights (c ∷ cs) =
    c.start.x ∷ c.start.y ∷ c.cp1.x ∷ c.cp1.y ∷ c.cp2.x ∷ c.cp2.y ∷ c.end.x ∷ c.end.y ∷ eights cs
