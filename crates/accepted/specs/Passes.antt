-- Every list that a fit accepts passes the checker: whatever answer and slices meet the fit's promise with k curves, the checker's promise on the same
-- marks, tolerance and slices allows `Passed` alone, for the record of nine with its worst marks. Definitions only.
use Rattle.std.specs.Prelude.{ℕ, ◌≡◌, List, Float}
use Rattle.float.specs.Answer.{ok}
use Rattle.plane.specs.declared.Point.{Point}
use Rattle.form.specs.declared.Form.TheVariants.{Nine}
use Rattle.ring.specs.declared.Outline.TheVariants.{Open}
use Rattle.tangents.specs.Ways.{outline_of}
use Rattle.tangents.specs.declared.Cutting.{Cutting}
use Rattle.tangents.specs.declared.Cutting.TheVariants.{Joined, Ring}
use Rattle.fit.specs.Fit.{ending, fit_of, cubic_of}
use Rattle.checker.specs.Check.{check_of, checked_answer}
use Rattle.checker.specs.declared.Checked.{Checked}
use Rattle.checker.specs.declared.Checked.TheVariants.{Passed}

-- a fit by blocks, and the checker of the outlines that it cuts; a slice is C before the call and C' after it
abbrev pub BlocksPass : Cutting → Type 0
BlocksPass cutting =
    (ms : List Float) (tol : Float) (k : ℕ) (C C' : List Float) (F F' W W' : List ℕ) (P P' : List Float) (answer : Checked)
    → ending (ok k) C' F' W' P' ≡ fit_of cutting ms tol C F W P
    → checked_answer answer ≡ check_of (outline_of cutting) Nine ms tol k C' F' W' P'
    → answer ≡ Passed

-- the joined fit, and the ring fit
abbrev pub JoinedPasses : Type 0
JoinedPasses = BlocksPass Joined

abbrev pub RingPasses : Type 0
RingPasses = BlocksPass Ring

-- the direct fit, with the tangents s and e
abbrev pub DirectPasses : Type 0
DirectPasses =
    (ms : List Float) (s e : Point) (tol : Float) (k : ℕ) (C C' : List Float) (F F' W W' : List ℕ) (P P' : List Float) (answer : Checked)
    → ending (ok k) C' F' W' P' ≡ cubic_of ms s e tol C F W P
    → checked_answer answer ≡ check_of Open Nine ms tol k C' F' W' P'
    → answer ≡ Passed
