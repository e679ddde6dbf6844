-- Two answers of import that meet its promise are the same, and so are the numbers that they leave. Assumes nothing.
use Rattle.std.proofs.Common.{◌≡◌, sym, ap, ◌∙◌, List, Float, Result}
use Rattle.float.specs.Refusal.{answer}
use Rattle.float.specs.declared.refusal.Refusal.{Refusal}
use Rattle.float.proofs.Refusals.{same_answer}
use Rattle.import.specs.declared.Imported.{Imported}
use Rattle.import.specs.Import.{Left, left}

pub agree : (X : Left) (r r' : Result Imported Refusal) (C C' : List Float) → left (answer r) C ≡ X → left (answer r') C' ≡ X → (r ≡ r') × (C ≡ C')
agree X r r' C C' h g =
    let e = h ∙ sym g in
    (same_answer r r' (ap (λ (x : Left). x.answer) e), ap (λ (x : Left). x.curves) e)
