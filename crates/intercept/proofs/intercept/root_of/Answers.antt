-- `intercept::intercept::root_of` meets its contract.
use mathlib.Core.Path.{sym, ◌∙◌}
use Rattle.float.proofs.Refusals.{handed_on}
use Rattle.plane.specs.Range.{point_finite}
use Rattle.intercept.proofs.Steps.{root_none, root_on, root_off}
use Rattle.intercept.proofs.intercept.root_of.Goals as goal

pub returns-in_err-intercept : goal.returns-in_err-intercept
returns-in_err-intercept c = handed_on _ _ c.from_residual.ensures.1 ∙ root_none _ _ c.in_err-intercept.ensures

pub returns-then-not-two_finite : goal.returns-then-not-two_finite
unfolding point_finite
returns-then-not-two_finite c =
    root_off _ _ c.in_ok-intercept.ensures _ c.de_casteljau6-p.ensures (sym c.two_finite.ensures ∙ c.if-not-two_finite.true)

pub returns : goal.returns
unfolding point_finite
returns c =
    root_on _ _ c.in_ok-intercept.ensures _ c.de_casteljau6-p.ensures (sym c.two_finite.ensures ∙ c.if-not-two_finite.false)
