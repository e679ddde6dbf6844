-- Parts that wait, worked off from left to right: words of the second engine's inner contracts. Definitions only.
use Rattle.std.specs.Prelude.{ℕ, zero, suc, ◌+◌, ◌-◌, List, [], ◌∷◌, get_or, Float}
use Rattle.float.specs.Answer.{Answer, ok}
use Rattle.float.specs.Answer.{refused as no}
use Rattle.plane.specs.declared.Point.{Point}
use Rattle.part.specs.Part.{Part, fails, part_of}
use Rattle.cut.specs.Run.{Run, refused, join, run_of}
use Rattle.blocks.specs.Blocks.{block_at, blocks_of}
use Rattle.parts.specs.declared.Heading.{Heading}
use Rattle.parts.specs.declared.Heading.TheVariants.{Given, By}

-- the run that is asked for: all marks as one part, or the blocks of an outline. Both are the first engine's
abbrev pub run_in : Heading → List Float → ℕ → Float → Run
run_in (Given w) ms size tol = run_of ms 0 w.start w.end tol
run_in (By k) ms size tol = blocks_of k ms size tol

-- the marks of the part from mark a to mark b, both in it
abbrev pub part_at : List Float → ℕ → ℕ → List Float
part_at ms a b = block_at ms a (b + 1)

-- on with both tangents, or the first refusal of theirs
abbrev pub headed : {X : Type 0} → (ℕ → X) → Answer Point → Answer Point → (Point → Point → X) → X
headed stop (no q) e f = stop q
headed stop (ok s) (no q) f = stop q
headed stop (ok s) (ok e) f = f s e

-- what the part from mark a to mark b comes to, and its run, where tangents are by the mark: `start` and `end`
abbrev pub part_in : (ℕ → Answer Point) → (ℕ → Answer Point) → List Float → Float → ℕ → ℕ → Part
part_in start end ms tol a b = headed fails (start a) (end b) (λ s e. part_of (part_at ms a b) s e tol)

abbrev pub run_at : (ℕ → Answer Point) → (ℕ → Answer Point) → List Float → Float → ℕ → ℕ → Run
run_at start end ms tol a b = headed refused (start a) (end b) (λ s e. run_of (part_at ms a b) a s e tol)

-- the part from mark a to mark b, then the part from there to the first end that waits, and so on
unfoldable pub open_of : (ℕ → Answer Point) → (ℕ → Answer Point) → List Float → Float → ℕ → ℕ → List ℕ → Run
open_of start end ms tol a b [] = run_at start end ms tol a b
open_of start end ms tol a b (c ∷ cs) = join (b - a) (run_at start end ms tol a b) (open_of start end ms tol b c cs)

-- the ends that wait are the first d of a slice, the next one last
unfoldable pub waits : ℕ → List ℕ → List ℕ
waits zero O = []
waits (suc d) O = get_or O d 0 ∷ waits d O
