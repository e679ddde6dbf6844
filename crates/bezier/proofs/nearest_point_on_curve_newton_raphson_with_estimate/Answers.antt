-- `bezier::nearest_point_on_curve_newton_raphson_with_estimate` meets its promise.
use mathlib.Core.Path.{◌∙◌}
use Rattle.float.proofs.Answers.{granted, denied}
use Rattle.bezier.specs.Calls.{refine_call}
use Rattle.bezier.proofs.nearest_point_on_curve_newton_raphson_with_estimate.Goals as goal

pub returns-then-not-curve_in_range-point_in_range : goal.returns-then-not-curve_in_range-point_in_range
unfolding refine_call
returns-then-not-curve_in_range-point_in_range c =
    denied 5 _ (simp (c.finite.ensures, c.point_in_range.ensures, c.curve_in_range.ensures) at c.if-not-curve_in_range-point_in_range.true)

pub returns : goal.returns
unfolding refine_call
returns c =
    c.refine.ensures
    ∙ granted 5 _ (simp (c.finite.ensures, c.point_in_range.ensures, c.curve_in_range.ensures) at c.if-not-curve_in_range-point_in_range.false)
