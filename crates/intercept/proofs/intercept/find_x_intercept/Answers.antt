-- `intercept::intercept::find_x_intercept` meets its contract.
use mathlib.Core.Path.{ap, ◌∙◌}
use Rattle.float.specs.Answer.{outcome}
use Rattle.float.proofs.Refusals.{handed_on}
use Rattle.quintic.specs.declared.numbers.Six.{Six}
use Rattle.intercept.specs.Intercept.{newton}
use Rattle.intercept.proofs.Steps.{intercept_on, intercept_off}
use Rattle.intercept.proofs.intercept.find_x_intercept.Goals as goal

pub returns-in_err-guess : goal.returns-in_err-guess
returns-in_err-guess c = handed_on _ _ c.from_residual.ensures.1 ∙ intercept_off _ _ c.in_err-guess.ensures

pub returns : goal.returns
returns c =
    c.find_x_intercept_newton_raphson.ensures
    ∙ ap (λ (h : Six). outcome (newton h c.in_ok-guess.guess)) c.heights_of.ensures
    ∙ intercept_on _ _ c.in_ok-guess.ensures
