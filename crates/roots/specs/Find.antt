-- find_bezier_roots of find_roots.rs, with the document's bounds on depth and on sections. Definitions only.
use Rattle.std.specs.Prelude.{ℕ, zero, suc, ◌+◌, false, cond, List, [], ◌∷◌, eqb, ltb, Float}
use Rattle.std.specs.Float.{binary64}
use Rattle.std.specs.Float.Ieee.{of_bits}
use Rattle.float.specs.Answer.{Answer, ok, refused, unless, outcome, ◌>>=◌}
use Rattle.quintic.specs.Points.{subdivide6_of}
use Rattle.quintic.specs.declared.points.Section.{Section}
use Rattle.flat.specs.Flat.{crossings, flat_enough}
use Rattle.intercept.specs.Intercept.{root_of}
use Rattle.roots.specs.declared.find.Waiting.{Waiting}
use Rattle.roots.specs.declared.find.Look.{Look}
use Rattle.roots.specs.declared.find.Look.TheVariants.{Nothing, Root, Halved}

-- 0.5
abbrev pub half : Float
half = of_bits binary64 0x3fe0_0000_0000_0000

unfoldable pub root_seen : Section → Answer Look
root_seen s = do
  t ← outcome (root_of s)
  ok (Root t)

-- 8 where a section at depth 64 would be halved
unfoldable pub halve : Section → ℕ → Answer Look
halve s depth = unless 8 (ltb depth 64) (do
  h ← outcome (subdivide6_of half s)
  ok (Halved h))

-- no crossing: no root; one crossing and flat enough: a root; otherwise halves
unfoldable pub look_of : Section → ℕ → Answer Look
look_of s depth = cond (eqb (crossings s) 0) (ok Nothing) (do
  flat ← cond (eqb (crossings s) 1) (outcome (flat_enough s)) (ok false)
  cond flat (root_seen s) (halve s depth))

abbrev pub wait : Section → ℕ → Waiting
wait s depth = record { section = s; depth = depth }

-- how the search goes on with the sections that wait: the left half is looked at before the right
unfoldable pub next : (List Waiting → Answer (List Float)) → ℕ → List Waiting → Look → Answer (List Float)
next search depth ws Nothing = search ws
next search depth ws (Root t) = do
  ts ← search ws
  ok (t ∷ ts)
next search depth ws (Halved h) = search (wait h.left (depth + 1) ∷ wait h.right (depth + 1) ∷ ws)

-- the roots of the sections that wait, with so many sections left to take: refused by the number `full` where one more would be taken
unfoldable pub find : ℕ → ℕ → List Waiting → Answer (List Float)
find full zero [] = ok []
find full zero (w ∷ ws) = refused full
find full (suc left) [] = ok []
find full (suc left) (w ∷ ws) = do
  seen ← look_of w.section w.depth
  next (find full left) w.depth ws seen

unfoldable pub find_roots : Section → Answer (List Float)
find_roots points = find 8 2048 (wait points 0 ∷ [])
