-- `bezier::de_casteljau4` meets its promise.
use Rattle.float.proofs.Answers.{denied, settled}
use Rattle.bezier.specs.Calls.{casteljau4_call}
use Rattle.cubic.proofs.Fine.{casteljau4_same}
use Rattle.bezier.proofs.de_casteljau4.Goals as goal

pub returns-then-not-finite-curve_in_range : goal.returns-then-not-finite-curve_in_range
unfolding casteljau4_call
returns-then-not-finite-curve_in_range c = denied 5 _ (simp (c.curve_in_range.ensures, c.finite.ensures) at c.if-not-finite-curve_in_range.true)

pub returns : goal.returns
unfolding casteljau4_call
returns c =
    settled 5 _ (casteljau4_same _ _ _ _ _)
    (simp (c.curve_in_range.ensures, c.finite.ensures) at c.if-not-finite-curve_in_range.false)
    (simp (c.point_finite.ensures, c.de_casteljau4-p.ensures) at c.finite_end.ensures)
