-- `bezier::de_casteljau2` meets its promise.
use Rattle.float.proofs.Answers.{denied, settled}
use Rattle.bezier.specs.Calls.{casteljau2_call}
use Rattle.cubic.proofs.Fine.{casteljau2_same}
use Rattle.bezier.proofs.de_casteljau2.Goals as goal

pub returns-then-not-finite-point_in_range : goal.returns-then-not-finite-point_in_range
unfolding casteljau2_call
returns-then-not-finite-point_in_range c = denied 5 _ (simp (c.point_in_range-2.ensures, c.point_in_range.ensures, c.finite.ensures) at c.if-not-finite-point_in_range.true)

pub returns : goal.returns
unfolding casteljau2_call
returns c =
    settled 5 _ (casteljau2_same _ _ _)
    (simp (c.point_in_range-2.ensures, c.point_in_range.ensures, c.finite.ensures) at c.if-not-finite-point_in_range.false)
    (simp (c.point_finite.ensures, c.de_casteljau2-p.ensures) at c.finite_end.ensures)
