-- What the code reads of a path at a place of its text: numbers are capped, so that what is too large is known and nothing overflows. Definitions only.
use Rattle.std.specs.Prelude.{ℕ, Bool, List, ◌≡◌, length, drop, eqb, Option, Some, None}
use Rattle.float.specs.Answer.{Answer, ok, refused, unless}
use Rattle.plane.specs.declared.Point.{Point}
use Rattle.plane.specs.declared.Curve.{Curve}
use Rattle.path.specs.Range.{no_path}
use Rattle.path.specs.Numbers.{Taken, taken, is_space, past}
use Rattle.path.specs.Grammar as grammar
use Rattle.path.specs.Grammar.{Place, Segment, line, curve}
use Rattle.path.specs.Curves.{place_small, segment_small, point_at, curve_from}
use Rattle.path.specs.declared.Letter.{Letter}
use Rattle.numerals.specs.Numerals.{capped}
use Rattle.import.specs.declared.Pair.{Pair}
use Rattle.import.specs.declared.Drawn.{Drawn}
use Rattle.import.specs.declared.Step.{Step}
use Rattle.import.specs.declared.Step.TheVariants as step

unfoldable pub capped_place : Place → Place
capped_place p = record { x = capped p.x; y = capped p.y }

unfoldable pub capped_segment : Segment → Segment
capped_segment (line p) = line (capped_place p)
capped_segment (curve a b c) = curve (capped_place a) (capped_place b) (capped_place c)

-- a point of a path: the line of two such points is no run that fails
pub record Marked (p : Point) : Type 0 where
  pub place : Place
  pub is : p ≡ point_at (capped_place place)

-- ---- a pair of numbers

pub record Standing : Type 0 where
  pub point : Point
  pub small : Bool

unfoldable pub standing : Place → Standing
standing p = record { point = point_at (capped_place p); small = place_small p }

abbrev pub pair_answer : List ℕ → Option Pair → Answer (Taken Standing)
pair_answer T (Some p) = ok (taken (record { point = p.point; small = p.small }) (drop p.rest T))
pair_answer T None = refused no_path

-- ---- a letter's numbers

pub record Bent : Type 0 where
  pub curve : Curve
  pub small : Bool

-- from the point p on
unfoldable pub bent : Point → Segment → Bent
bent p g = record { curve = curve_from p (capped_segment g); small = segment_small g }

abbrev pub drawn_answer : List ℕ → Option Drawn → Answer (Taken Bent)
drawn_answer T (Some d) = ok (taken (record { curve = d.curve; small = d.small }) (drop d.rest T))
drawn_answer T None = refused no_path

-- ---- a step

pub data Next : Type 0 where
  drawn : Letter → Bent → List ℕ → Next
  closed : Next
  ended : Next

abbrev pub next_of : Point → grammar.Step → Next
next_of p (grammar.drawn l g rest) = drawn l (bent p g) rest
next_of p grammar.closed = closed
next_of p grammar.ended = ended

abbrev pub next_answer : Point → Answer grammar.Step → Answer Next
next_answer p (ok s) = ok (next_of p s)
next_answer p (refused q) = refused q

abbrev pub step_answer : List ℕ → Option Step → Answer Next
step_answer T (Some (step.Drawn l d)) = ok (drawn l (record { curve = d.curve; small = d.small }) (drop d.rest T))
step_answer T (Some step.Closed) = ok closed
step_answer T (Some step.Ended) = ok ended
step_answer T None = refused no_path

-- behind Z
unfoldable pub closed_by : List ℕ → Answer Next
closed_by s = unless no_path (eqb (length (past is_space s)) 0) (ok closed)
