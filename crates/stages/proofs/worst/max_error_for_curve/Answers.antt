-- `stages::worst::max_error_for_curve` meets its contract.
use mathlib.Core.Path.{sym, ◌∙◌}
use Rattle.float.proofs.Refusals.{handed_on}
use Rattle.stages.proofs.Errors.{far_lost, far-found, far_off}
use Rattle.stages.proofs.worst.max_error_for_curve.Goals as goal

pub returns-in_err-w : goal.returns-in_err-w
returns-in_err-w c = handed_on _ _ c.from_residual.ensures.1 ∙ far_lost _ _ _ _ c.in_err-w.ensures

pub returns-then-not-finite : goal.returns-then-not-finite
returns-then-not-finite c = far_off _ _ _ _ c.in_ok-w.ensures _ c.sqrt-err.ensures (sym c.finite.ensures ∙ c.if-not-finite.true)

pub returns : goal.returns
returns c = far-found _ _ _ _ c.in_ok-w.ensures _ c.sqrt-err.ensures (sym c.finite.ensures ∙ c.if-not-finite.false)
