-- `bezier::de_casteljau3` meets its promise.
use Rattle.float.proofs.Answers.{denied, settled}
use Rattle.bezier.specs.Calls.{casteljau3_call}
use Rattle.cubic.proofs.Fine.{casteljau3_same}
use Rattle.bezier.proofs.de_casteljau3.Goals as goal

pub returns-then-not-finite-points : goal.returns-then-not-finite-points
unfolding casteljau3_call
returns-then-not-finite-points c = denied 5 _ (simp (c.point_in_range-3.ensures, c.point_in_range-2.ensures, c.point_in_range.ensures, c.finite.ensures) at c.if-not-finite-points.true)

pub returns : goal.returns
unfolding casteljau3_call
returns c =
    settled 5 _ (casteljau3_same _ _ _ _)
    (simp (c.point_in_range-3.ensures, c.point_in_range-2.ensures, c.point_in_range.ensures, c.finite.ensures) at c.if-not-finite-points.false)
    (simp (c.point_finite.ensures, c.de_casteljau3-p.ensures) at c.finite_end.ensures)
