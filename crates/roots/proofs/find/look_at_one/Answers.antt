-- `roots::find::look_at_one` meets its contract.
use mathlib.Core.Path.{◌∙◌}
use Rattle.float.proofs.Refusals.{handed_on}
use Rattle.float.proofs.Truth.{picked, passed}
use Rattle.flat.proofs.Baseline.{answered, unanswered}
use Rattle.roots.proofs.Looks.{one_on, one_off}
use Rattle.roots.proofs.find.look_at_one.Goals as goal

pub returns-in_err-flat : goal.returns-in_err-flat
returns-in_err-flat c = handed_on _ _ c.from_residual.ensures.1 ∙ one_off _ _ _ (unanswered _ _ c.in_err-flat.ensures)

pub returns-then-flat : goal.returns-then-flat
returns-then-flat c = c.look_for_root.ensures ∙ picked _ _ c.if-flat.true ∙ one_on _ _ _ (answered _ _ c.in_ok-flat.ensures)

pub returns : goal.returns
returns c = c.halve.ensures ∙ passed _ _ c.if-flat.false ∙ one_on _ _ _ (answered _ _ c.in_ok-flat.ensures)
