-- The fits of the second engine: what each answers, and what the five lent slices hold after it. Definitions only.
use Rattle.std.specs.Prelude.{ℕ, ◌*◌, ◌&&◌, ◌||◌, cond, List, length, replicate, eqb, ltb, Float}
use Rattle.float.specs.Answer.{Answer}
use Rattle.limits.specs.Limits.{most_marks}
use Rattle.marks.specs.Marks.{count}
use Rattle.marks.specs.Block.{block_size}
use Rattle.gate.specs.Gate.{gate_of}
use Rattle.cut.specs.Run.{Run, refused, done}
use Rattle.tangents.specs.Ways.{outline_of}
use Rattle.parts.specs.declared.Heading.{Heading}
use Rattle.parts.specs.declared.Heading.TheVariants.{Given, By}
use Rattle.parts.specs.Headings.{marks_in}
use Rattle.waiting.specs.Waiting.{run_in}
use Rattle.fit.specs.Fit.{Ending, ending, entered, cubic_gate}

-- what a fit leaves, and what the slice lent for open parts holds
pub record FlatEnding : Type 0 where
  pub fit : Ending
  pub parts : List ℕ

abbrev pub flat_ending : Answer ℕ → List Float → List ℕ → List ℕ → List Float → List ℕ → FlatEnding
flat_ending r C F W P O = record { fit = ending r C F W P; parts = O }

-- the first engine's tests
abbrev pub gate_in : Heading → List Float → Float → ℕ → ℕ → ℕ → ℕ → ℕ
gate_in (Given w) ms tol c f v p = cubic_gate ms w.start w.end tol c f v p
gate_in (By k) ms tol c f v p = gate_of most_marks (outline_of k) ms tol c f v p

-- and 4 also if there are fewer than 2n numbers for open parts; 5 comes after it
abbrev pub open_gate : ℕ → ℕ → ℕ → ℕ
open_gate g o n = cond (ltb o (2 * n) && (eqb g 0 || eqb g 5)) 4 g

-- no open part is left behind a run, whether it is refused or done
abbrev pub none_open : Run → List ℕ → List ℕ
none_open (refused q) O = replicate (length O) 0
none_open (done cs bs ps) O = replicate (length O) 0

-- a call that its gate refuses leaves all as it was; else it ends as its run
abbrev pub flat_entered : ℕ → Run → List Float → List ℕ → List ℕ → List Float → List ℕ → FlatEnding
flat_entered g R C F W P O = record { fit = entered g R C F W P; parts = cond (eqb g 0) (none_open R O) O }

-- the run is the first engine's: of all marks as one part, or of the blocks of the joined fit or the ring
unfoldable pub flat_of : Heading → List Float → Float → List Float → List ℕ → List ℕ → List Float → List ℕ → FlatEnding
flat_of h ms tol C F W P O =
    flat_entered (open_gate (gate_in h ms tol (length C) (length F) (length W) (length P)) (length O) (count ms))
    (run_in h (marks_in h ms) (block_size (count (marks_in h ms))) tol) C F W P O
