-- `nearest::nearest_point_on_curve` meets its promise.
use mathlib.Core.Path.{sym, ◌∙◌}
use Rattle.float.proofs.Answers.{denied}
use Rattle.nearest.specs.Nearest.{nearest_answer, nearest_call}
use Rattle.nearest.proofs.Calls.{searched, unsearched}
use Rattle.nearest.proofs.nearest_point_on_curve.Goals as goal

pub returns-then-not-curve_in_range-point_in_range : goal.returns-then-not-curve_in_range-point_in_range
unfolding nearest_answer nearest_call
returns-then-not-curve_in_range-point_in_range c =
    denied 5 _ (simp (c.point_in_range.ensures, c.curve_in_range.ensures) at c.if-not-curve_in_range-point_in_range.true)

pub returns-then-not-heights_finite : goal.returns-then-not-heights_finite
unfolding nearest_answer
returns-then-not-heights_finite c =
    unsearched _ _ (simp (c.point_in_range.ensures, c.curve_in_range.ensures) at c.if-not-curve_in_range-point_in_range.false) _
    c.distance_in_bezier_form-form.ensures (sym c.heights_finite.ensures ∙ c.if-not-heights_finite.true)

pub returns : goal.returns
returns c =
    c.nearest_by.ensures
    ∙ searched _ _ (simp (c.point_in_range.ensures, c.curve_in_range.ensures) at c.if-not-curve_in_range-point_in_range.false) _
    c.distance_in_bezier_form-form.ensures (sym c.heights_finite.ensures ∙ c.if-not-heights_finite.false)
