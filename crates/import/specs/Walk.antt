-- The walk along a path's text, which counts its curves and puts those that there is room for. Definitions only.
use Rattle.std.specs.Prelude.{ℕ, suc, ◌+◌, ◌*◌, ◌/◌, Bool, true, ◌&&◌, cond, ◌≡◌, List, [], ◌∷◌, ◌++◌, ltb, Float, length, take, drop, Option, Some, None}
use Rattle.float.specs.Answer.{Answer, ok, refused}
use Rattle.float.specs.Slices.{written}
use Rattle.plane.specs.declared.Point.{Point}
use Rattle.plane.specs.declared.Curve.{Curve}
use Rattle.form.specs.Form.{curve_numbers}
use Rattle.path.specs.Range.{no_path}
use Rattle.path.specs.Grammar.{Segment, Drawing, drawing, draws, Path}
use Rattle.path.specs.Curves.{place_small, segments_small, point_at, closing, curves_from, eights}
use Rattle.path.specs.declared.Letter.{Letter}
use Rattle.import.specs.declared.Walked.{Walked}
use Rattle.import.specs.Drawn.{capped_place, capped_segment}

-- curve k's eight numbers at their place, if there is room for them
unfoldable pub placed : List Float → ℕ → Curve → List Float
placed C k c = cond (ltb k (length C / curve_numbers)) (take (curve_numbers * k) C ++ written (eights (c ∷ [])) (drop (curve_numbers * k) C)) C

-- curves from number k on
unfoldable pub filled : List Float → ℕ → List Curve → List Float
filled C k [] = C
filled C k (c ∷ cs) = filled (placed C k c) (k + 1) cs

unfoldable pub capped_segments : List Segment → List Segment
capped_segments [] = []
capped_segments (g ∷ gs) = capped_segment g ∷ capped_segments gs

-- all segments from a text on: each takes a byte at least
abbrev pub draws_of : Letter → List ℕ → Answer Drawing
draws_of l s = draws (suc (length s)) l s

-- what Z does at the point p, behind k curves
pub record Closes (m p : Point) (k : ℕ) (C : List Float) (r : ℕ) (D : List Float) : Type 0 where
  pub count : r ≡ k + length (closing true m p)
  pub out : D ≡ filled C k (closing true m p)

-- what a walk comes to: how many curves, whether Z closed them, whether all numbers are small, and the lent numbers as they are left
pub record Done : Type 0 where
  pub count : ℕ
  pub closed : Bool
  pub small : Bool
  pub out : List Float

-- from the point p on, behind k curves
unfoldable pub left : Point → Point → ℕ → Bool → List Float → Drawing → Done
left m p k s C d = record {
  count = k + length (curves_from d.closed m p (capped_segments d.segments));
  closed = d.closed;
  small = s && segments_small d.segments;
  out = filled C k (curves_from d.closed m p (capped_segments d.segments));
}

abbrev pub left_answer : Point → Point → ℕ → Bool → List Float → Answer Drawing → Answer Done
left_answer m p k s C (ok d) = ok (left m p k s C d)
left_answer m p k s C (refused q) = refused q

abbrev pub walked_answer : Option Walked → List Float → Answer Done
walked_answer (Some w) C = ok (record { count = w.count; closed = w.closed; small = w.small; out = C })
walked_answer None C = refused no_path

-- a whole path
unfoldable pub wholly : List Float → Path → Done
wholly C p = left (point_at (capped_place p.start)) (point_at (capped_place p.start)) 0 (place_small p.start) C (drawing p.segments p.closed)

abbrev pub wholly_answer : List Float → Answer Path → Answer Done
wholly_answer C (ok p) = ok (wholly C p)
wholly_answer C (refused q) = refused q

-- the same without a place to put a curve
abbrev pub seen : Done → Walked
seen d = record { count = d.count; closed = d.closed; small = d.small }

abbrev pub seen_of : Answer Path → Answer Walked
seen_of (ok p) = ok (seen (wholly [] p))
seen_of (refused q) = refused q
