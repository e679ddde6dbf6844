-- The ring fit's curves come back to where they began. Definitions only.
use Rattle.std.specs.Prelude.{ℕ, ◌≡◌, List, Float}
use Rattle.float.specs.Answer.{ok}
use Rattle.form.specs.declared.Form.TheVariants.{Nine}
use Rattle.tangents.specs.declared.Cutting.TheVariants.{Ring}
use Rattle.fit.specs.Fit.{ending, fit_of}
use Rattle.sound.specs.Closes.{Closes}

-- the first of k curves begins on mark 0 and the last one ends there, bit for bit, whatever answer and slices meet the fit's promise
abbrev pub FitCloses : Type 0
FitCloses =
    (ms : List Float) (tol : Float) (k : ℕ) (C C' : List Float) (F F' W W' : List ℕ) (P P' : List Float)
    → ending (ok k) C' F' W' P' ≡ fit_of Ring ms tol C F W P
    → Closes Nine ms k C'
