-- What the inner functions return: words of their contracts alone, of which no public promise speaks. Definitions only.
use Rattle.std.specs.Prelude.{ℕ, cond, List, take, Float, Result}
use Rattle.float.specs.Answer.{Answer, ok, outcome, ◌>>=◌}
use Rattle.float.specs.Refusal.{answer}
use Rattle.float.specs.declared.refusal.Refusal.{Refusal}
use Rattle.quintic.specs.declared.points.Section.{Section}
use Rattle.flat.specs.Flat.{flat_enough}
use Rattle.roots.specs.Find.{root_seen, halve}
use Rattle.roots.specs.declared.find.Look.{Look}

-- where a section has one crossing
unfoldable pub one_of : Section → ℕ → Answer Look
one_of s depth = do
  flat ← outcome (flat_enough s)
  cond flat (root_seen s) (halve s depth)

-- the roots found stand at the front of the lent numbers
unfoldable pub roots_answer : Result ℕ Refusal → List Float → Answer (List Float)
roots_answer r l = do
  n ← answer r
  ok (take n l)
