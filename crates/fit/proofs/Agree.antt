-- Two answers of a fit that meet its promise are the same, and so are the slices that they leave. Assumes nothing.
use Prim.Native.Nat.{ℕ}
use mathlib.Core.Path.{◌≡◌, sym, ap, ◌∙◌}
use mathlib.Core.List.{List}
use lib.Ieee.{Float}
use Rattle.std.specs.Prelude.{Result}
use Rattle.float.specs.Refusal.{answer}
use Rattle.float.specs.declared.refusal.Refusal.{Refusal}
use Rattle.float.proofs.Refusals.{same_answer}
use Rattle.fit.specs.Fit.{Ending, ending}

pub agree : (X : Ending) (r r' : Result ℕ Refusal) (C C' : List Float) (F F' W W' : List ℕ) (P P' : List Float) → ending (answer r) C F W P ≡ X → ending (answer r') C' F' W' P' ≡ X
    → (r ≡ r') × (C ≡ C') × (F ≡ F') × (W ≡ W') × (P ≡ P')
agree X r r' C C' F F' W W' P P' h g =
    let e = h ∙ sym g in
    (same_answer r r' (ap (λ (x : Ending). x.answer) e), ap (λ (x : Ending). x.curves) e, ap (λ (x : Ending). x.firsts) e, ap (λ (x : Ending). x.worsts) e, ap (λ (x : Ending). x.params) e)
