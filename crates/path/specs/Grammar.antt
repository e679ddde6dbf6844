-- SVG 1.1's path grammar, for one subpath of absolute M, L, C and Z, on lists of bytes: what is read in a text, or 11 where the grammar does not have it.
--     path:       wsp* "M" wsp* pair (comma-wsp? pair)* (wsp* lineto | wsp* curveto)* (wsp* "Z")? wsp*
--     lineto:     "L" wsp* pair (comma-wsp? pair)*
--     curveto:    "C" wsp* three (comma-wsp? three)*
--     three:      pair comma-wsp? pair comma-wsp? pair
--     pair:       number comma-wsp? number
--     comma-wsp:  wsp+ ","? wsp* | "," wsp*
-- Definitions only.
use Rattle.std.specs.Prelude.{ℕ, zero, suc, Bool, true, false, cond, List, [], ◌∷◌, eqb, length}
use Rattle.float.specs.Answer.{Answer, ok, refused, unless, ◌>>=◌}
use Rattle.path.specs.Range.{no_path}
use Rattle.path.specs.Numbers.{Taken, taken, front, behind, is_space, past, number}
use Rattle.path.specs.declared.Decimal.{Decimal}
use Rattle.path.specs.declared.Letter.{Letter}
use Rattle.path.specs.declared.Letter.TheVariants.{Line, Curve}

-- comma-wsp?: white space, with at most one comma in it
unfoldable pub apart : List ℕ → List ℕ
apart s = cond (eqb (front (past is_space s)) 44) (past is_space (behind (past is_space s))) (past is_space s)

pub record Place : Type 0 where
  pub x : Decimal
  pub y : Decimal

unfoldable pub pair : List ℕ → Answer (Taken Place)
pair s = do
  x ← number s
  y ← number (apart x.rest)
  ok (taken (record { x = x.value; y = y.value }) y.rest)

-- what is drawn: a line to a place, or a curve by two controls to its end
pub data Segment : Type 0 where
  line : Place → Segment
  curve : Place → Place → Place → Segment

-- the numbers that follow a letter
unfoldable pub arguments : Letter → List ℕ → Answer (Taken Segment)
arguments Line s = do
  p ← pair s
  ok (taken (line p.value) p.rest)
arguments Curve s = do
  a ← pair s
  b ← pair (apart a.rest)
  c ← pair (apart b.rest)
  ok (taken (curve a.value b.value c.value) c.rest)

-- what comes next: a segment, by which letter, and the text behind it; Z with nothing but white space behind it; or the end
pub data Step : Type 0 where
  drawn : Letter → Segment → List ℕ → Step
  closed : Step
  ended : Step

unfoldable pub drawn_by : Letter → List ℕ → Answer Step
drawn_by l s = do
  g ← arguments l s
  ok (drawn l g.value g.rest)

-- behind a segment that the letter l drew: where neither a letter (L is 76, C is 67, Z is 90) nor the end is next, l's numbers are repeated
unfoldable pub step : Letter → List ℕ → Answer Step
step l s =
    let t = past is_space s in
    cond (eqb (length t) 0) (ok ended)
    (cond (eqb (front t) 90) (unless no_path (eqb (length (past is_space (behind t))) 0) (ok closed))
    (cond (eqb (front t) 76) (drawn_by Line (past is_space (behind t)))
    (cond (eqb (front t) 67) (drawn_by Curve (past is_space (behind t))) (drawn_by l (apart s)))))

-- all segments, and whether Z closes them
pub record Drawing : Type 0 where
  pub segments : List Segment
  pub closed : Bool

abbrev pub drawing : List Segment → Bool → Drawing
drawing gs z = record { segments = gs; closed = z }

abbrev pub then : (Letter → List ℕ → Answer Drawing) → Step → Answer Drawing
then more ended = ok (drawing [] false)
then more closed = ok (drawing [] true)
then more (drawn l g rest) = do
  d ← more l rest
  ok (drawing (g ∷ d.segments) d.closed)

-- at most f of them: each takes a byte at least, so a bound above the length is none
unfoldable pub draws : ℕ → Letter → List ℕ → Answer Drawing
draws zero l s = refused no_path
draws (suc f) l s = ◌>>=◌ (step l s) (then (draws f))

pub record Path : Type 0 where
  pub start : Place
  pub segments : List Segment
  pub closed : Bool

-- the path of a whole text: M is 77, and further pairs behind its first are lines
unfoldable pub path_of : List ℕ → Answer Path
path_of text = unless no_path (eqb (front (past is_space text)) 77) do
  p ← pair (past is_space (behind (past is_space text)))
  d ← draws (suc (length text)) Line p.rest
  ok (record { start = p.value; segments = d.segments; closed = d.closed })
