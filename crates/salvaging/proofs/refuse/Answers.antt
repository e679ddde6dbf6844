-- `salvaging::refuse` meets its contract.
use mathlib.Core.Path.{◌≡◌, refl, ap, ◌∙◌}
use mathlib.Core.List.{List}
use Prim.Native.Nat.{ℕ}
use Rattle.float.specs.Answer.{Answer}
use Rattle.float.proofs.Refusals.{handed_on}
use Rattle.lines.specs.Handed.{Handed, handed}
use Rattle.salvaging.specs.declared.Sizes.{Sizes}
use Rattle.salvaging.specs.Layout.{alone}
use Rattle.salvaging.proofs.refuse.Goals as goal

-- what was handed over, with the answer that is made of it
by_line : {a : Answer ℕ} {R : List ℕ} {s : Answer Sizes} (H : Handed) → handed a R ≡ H → s ≡ alone a → (s ≡ alone H.answer) × (R ≡ H.out)
by_line H e s = (s ∙ ap (λ (x : Handed). alone x.answer) e, ap (λ (x : Handed). x.out) e)

pub returns-in_err-size : goal.returns-in_err-size
returns-in_err-size c = by_line _ (rw c.number.ensures at c.in_err-size.ensures) (handed_on _ _ c.from_residual.ensures.1)

pub returns : goal.returns
returns c = by_line _ (rw c.number.ensures at c.in_ok-size.ensures) refl
