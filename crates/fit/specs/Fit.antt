-- The five fits: what each answers, and what the four lent slices hold after it. Definitions only.
use Rattle.std.specs.Prelude.{ℕ, Bool, not, ◌&&◌, cond, List, length, replicate, eqb, Float}
use Rattle.float.specs.Number.{f0, f2}
use Rattle.float.specs.Answer.{Answer, ok}
use Rattle.float.specs.Answer.{refused as no}
use Rattle.float.specs.Slices.{written}
use Rattle.plane.specs.Range.{up_to}
use Rattle.plane.specs.declared.Point.{Point}
use Rattle.limits.specs.Limits.{most_marks}
use Rattle.marks.specs.Marks.{count}
use Rattle.marks.specs.Block.{block_size}
use Rattle.gate.specs.Gate.{refuse, gate_of}
use Rattle.cut.specs.Run.{Run, refused, done, firsts_of, worsts_of, run_of}
use Rattle.ring.specs.declared.Outline.TheVariants.{Open}
use Rattle.tangents.specs.Ways.{outline_of, marks_of}
use Rattle.tangents.specs.declared.Cutting.{Cutting}
use Rattle.blocks.specs.Blocks.{blocks_of}

-- the answer, and what the lent slices hold after the call
pub record Ending : Type 0 where
  pub answer : Answer ℕ
  pub curves : List Float
  pub firsts : List ℕ
  pub worsts : List ℕ
  pub params : List Float

abbrev pub ending : Answer ℕ → List Float → List ℕ → List ℕ → List Float → Ending
ending r C F W P = record { answer = r; curves = C; firsts = F; worsts = W; params = P }

-- A run that is refused leaves zeros. One that is done leaves nine numbers a curve, its first mark, its worst mark and every mark's parameter; the
-- places beyond stay.
abbrev pub ended : Run → List Float → List ℕ → List ℕ → List Float → Ending
ended (refused q) C F W P = ending (no q) (replicate (length C) f0) (replicate (length F) 0) (replicate (length W) 0) (replicate (length P) f0)
ended (done cs bs ps) C F W P = ending (ok (length bs)) (written cs C) (written (firsts_of bs) F) (written (worsts_of bs) W) (written ps P)

-- a call that its gate refuses leaves the slices as they were; else it ends as its run
abbrev pub entered : ℕ → Run → List Float → List ℕ → List ℕ → List Float → Ending
entered g R C F W P = cond (eqb g 0) (ended R C F W P) (ending (no g) C F W P)

-- by blocks, at most `most_marks` given; the size of a block is by the marks that are cut, a ring's with mark 0 once more
unfoldable pub fit_of : Cutting → List Float → Float → List Float → List ℕ → List ℕ → List Float → Ending
fit_of k ms tol C F W P =
    entered (gate_of most_marks (outline_of k) ms tol (length C) (length F) (length W) (length P)) (blocks_of k (marks_of k ms) (block_size (count (marks_of k ms))) tol) C F W P

-- a tangent's components: finite and of magnitude at most 2
unfoldable pub component : Float → Bool
component x = up_to f2 x

unfoldable pub are_tangents : Point → Point → Bool
are_tangents v w = component v.x && component v.y && (component w.x && component w.y)

-- the direct fit tests the tangents last
unfoldable pub cubic_gate : List Float → Point → Point → Float → ℕ → ℕ → ℕ → ℕ → ℕ
cubic_gate ms s e tol c f w p = cond (eqb (gate_of 512 Open ms tol c f w p) 0) (refuse (not (are_tangents s e)) 5 0) (gate_of 512 Open ms tol c f w p)

-- direct, with the tangents given, at most 512 marks
unfoldable pub cubic_of : List Float → Point → Point → Float → List Float → List ℕ → List ℕ → List Float → Ending
cubic_of ms s e tol C F W P = entered (cubic_gate ms s e tol (length C) (length F) (length W) (length P)) (run_of ms 0 s e tol) C F W P
