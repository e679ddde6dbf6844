-- The run of a part: one curve, or the run of its left side and then of its right. Definitions only.
use Rattle.std.specs.Prelude.{ℕ, zero, suc, ◌+◌, ◌*◌, List, [], ◌∷◌, ◌++◌, map, take, drop, Float}
use Rattle.float.specs.Answer.{Answer, ok, outcome}
use Rattle.float.specs.Answer.{refused as no}
use Rattle.plane.specs.declared.Point.{Point}
use Rattle.plane.specs.declared.Curve.{Curve}
use Rattle.marks.specs.Marks.{count}
use Rattle.part.specs.Part.{Part, fits, cuts, fails, part_of}
use Rattle.tangents.specs.declared.Ways.{Ways}
use Rattle.tangents.specs.Ways.{ways_at}

-- what stands beside a curve: the number of its first mark, and of its worst mark
pub record Beside : Type 0 where
  pub first : ℕ
  pub worst : ℕ

abbrev pub beside : ℕ → ℕ → Beside
beside first worst = record { first = first; worst = worst }

-- what the two slices of mark numbers hold of it
abbrev pub firsts_of : List Beside → List ℕ
firsts_of bs = map (λ b. b.first) bs

abbrev pub worsts_of : List Beside → List ℕ
worsts_of bs = map (λ b. b.worst) bs

-- refused with a number; or the curves' numbers, what stands beside each curve, and each mark's parameter
pub data Run : Type 0 where
  refused : ℕ → Run
  done : List Float → List Beside → List Float → Run

-- the nine numbers of a record: start, first control, second control, end, each x then y, and the largest distance
abbrev pub flat : Curve → Float → List Float
flat c far = c.start.x ∷ c.start.y ∷ c.cp1.x ∷ c.cp1.y ∷ c.cp2.x ∷ c.cp2.y ∷ c.end.x ∷ c.end.y ∷ far ∷ []

-- the marks left of a cut at k, and right of it: mark k is in both
abbrev pub left_of : ℕ → List Float → List Float
left_of k ms = take (2 * k + 2) ms

abbrev pub right_of : ℕ → List Float → List Float
right_of k ms = drop (2 * k) ms

-- left, then right: the first refusal, or all curves. Mark k has the right side's parameter
abbrev pub join : ℕ → Run → Run → Run
join k (refused q) r = refused q
join k (done c b p) (refused q) = refused q
join k (done c b p) (done c' b' p') = done (c ++ c') (b ++ b') (take k p ++ p')

-- on with the tangents, or their refusal
abbrev pub turned : Answer Ways → (Ways → Run) → Run
turned (ok w) f = f w
turned (no q) f = refused q

-- The run of a part that comes to P. The number bounds how deep the cuts go: as many as there are marks is enough.
unfoldable pub run : ℕ → Part → List Float → ℕ → Point → Point → Float → Run
run zero P ms first s e tol = refused 0
run (suc d) (fits c w ps) ms first s e tol = done (flat c w.err) (beside first (first + w.at) ∷ []) ps
run (suc d) (fails q) ms first s e tol = refused q
run (suc d) (cuts k) ms first s e tol =
    turned (outcome (ways_at ms k))
    (λ w. join k
    (run d (part_of (left_of k ms) s w.end tol) (left_of k ms) first s w.end tol)
    (run d (part_of (right_of k ms) w.start e tol) (right_of k ms) (first + k) w.start e tol))

-- marks, the number of their first, tangents at the ends, tolerance
unfoldable pub run_of : List Float → ℕ → Point → Point → Float → Run
unfolding run
run_of ms first s e tol = run (count ms) (part_of ms s e tol) ms first s e tol

-- a part that is cut at k
abbrev pub cut_of : List Float → ℕ → ℕ → Point → Point → Float → Run
cut_of ms k first s e tol =
    turned (outcome (ways_at ms k)) (λ w. join k (run_of (left_of k ms) first s w.end tol) (run_of (right_of k ms) (first + k) w.start e tol))
