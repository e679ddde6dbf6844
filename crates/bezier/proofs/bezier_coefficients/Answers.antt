-- `bezier::bezier_coefficients` meets its promise.
use Rattle.float.proofs.Answers.{denied, settled}
use Rattle.cubic.specs.Tests.{coefficients_finite}
use Rattle.bezier.specs.Calls.{coefficients_call}
use Rattle.cubic.proofs.Fine.{coefficients_same}
use Rattle.bezier.proofs.bezier_coefficients.Goals as goal

pub returns-then-not-dimension-curve_in_range : goal.returns-then-not-dimension-curve_in_range
unfolding coefficients_call
returns-then-not-dimension-curve_in_range c = denied 5 _ (simp c.curve_in_range.ensures at c.if-not-dimension-curve_in_range.true)

pub returns : goal.returns
unfolding coefficients_call coefficients_finite
returns c =
    settled 5 _ (coefficients_same _ _ _ _)
    (simp c.curve_in_range.ensures at c.if-not-dimension-curve_in_range.false)
    (simp (c.three_finite.ensures, c.bezier_coefficients-k.ensures, c.get-4.ensures, c.get-3.ensures, c.get-2.ensures, c.get.ensures) at c.finite_end.ensures)
