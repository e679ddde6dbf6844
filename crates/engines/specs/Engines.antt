-- The second engine beside the first. Definitions only.
use Rattle.std.specs.Prelude.{ℕ, Result, ◌*◌, ◌≤◌, ◌≡◌, ◌⊎◌, List, length, replicate, Float}
use Rattle.float.specs.Answer.{ok, refused}
use Rattle.float.specs.Refusal.{answer}
use Rattle.float.specs.declared.refusal.Refusal.{Refusal}
use Rattle.marks.specs.Marks.{count}
use Rattle.form.specs.declared.Form.TheVariants.{Nine}
use Rattle.tangents.specs.declared.Cutting.TheVariants.{Joined, Ring}
use Rattle.tangents.specs.declared.Ways.{Ways}
use Rattle.parts.specs.declared.Heading.{Heading}
use Rattle.parts.specs.declared.Heading.TheVariants.{Given, By}
use Rattle.parts.specs.Headings.{outline_in}
use Rattle.fit.specs.Fit.{Ending, fit_of, cubic_of}
use Rattle.checker.specs.Check.{check_of, checked_answer}
use Rattle.checker.specs.declared.Checked.{Checked}
use Rattle.checker.specs.declared.Checked.TheVariants.{Passed}
use Rattle.flat_fit.specs.Flat.{flat_ending, flat_of}

-- the first engine's fit: the direct one, or one by blocks
abbrev pub first_of : Heading → List Float → Float → List Float → List ℕ → List ℕ → List Float → Ending
first_of (Given w) ms tol C F W P = cubic_of ms w.start w.end tol C F W P
first_of (By k) ms tol C F W P = fit_of k ms tol C F W P

-- given room for open parts, the second engine's answer, curves, first marks, worst marks and parameters are the first's, on every input
abbrev pub Agree : Type 0
Agree =
    (h : Heading) (ms : List Float) (tol : Float) (C : List Float) (F W : List ℕ) (P : List Float) (O : List ℕ)
    → 2 * count ms ≤ length O
    → (flat_of h ms tol C F W P O).fit ≡ first_of h ms tol C F W P

-- every list that it accepts passes the checker, whatever answer and slices meet the fit's promise; a slice is C before the call and C' after it
abbrev pub FlatPasses : Heading → Type 0
FlatPasses h =
    (ms : List Float) (tol : Float) (k : ℕ) (C C' : List Float) (F F' W W' : List ℕ) (P P' : List Float) (O O' : List ℕ) (answer : Checked)
    → flat_ending (ok k) C' F' W' P' O' ≡ flat_of h ms tol C F W P O
    → checked_answer answer ≡ check_of (outline_in h) Nine ms tol k C' F' W' P'
    → answer ≡ Passed

abbrev pub JoinedFlatPasses : Type 0
JoinedFlatPasses = FlatPasses (By Joined)

abbrev pub RingFlatPasses : Type 0
RingFlatPasses = FlatPasses (By Ring)

abbrev pub DirectFlatPasses : Type 0
DirectFlatPasses = (w : Ways) → FlatPasses (Given w)

-- a call that was refused before its run: by 1 to 5, and all five slices are as they were
pub record Untouched (r : Result ℕ Refusal) (C C' : List Float) (F F' W W' : List ℕ) (P P' : List Float) (O O' : List ℕ) : Type 0 where
  pub number : ℕ
  pub is : answer r ≡ refused number
  pub least : 1 ≤ number
  pub most : number ≤ 5
  pub curves : C' ≡ C
  pub firsts : F' ≡ F
  pub worsts : W' ≡ W
  pub params : P' ≡ P
  pub parts : O' ≡ O

-- of every other call, accepted or refused by 6, no number of the slice of open parts is left
abbrev pub Leaves : Type 0
Leaves =
    (h : Heading) (ms : List Float) (tol : Float) (r : Result ℕ Refusal) (C C' : List Float) (F F' W W' : List ℕ) (P P' : List Float) (O O' : List ℕ)
    → flat_ending (answer r) C' F' W' P' O' ≡ flat_of h ms tol C F W P O
    → Untouched r C C' F F' W W' P P' O O' ⊎ (O' ≡ replicate (length O) 0)
