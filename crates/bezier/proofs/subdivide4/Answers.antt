-- `bezier::subdivide4` meets its promise.
use Rattle.float.proofs.Answers.{denied, settled}
use Rattle.cubic.specs.Tests.{halves_finite}
use Rattle.bezier.specs.Calls.{subdivide4_call}
use Rattle.cubic.proofs.Fine.{subdivide4_same}
use Rattle.bezier.proofs.subdivide4.Goals as goal

pub returns-then-not-finite-curve_in_range : goal.returns-then-not-finite-curve_in_range
unfolding subdivide4_call
returns-then-not-finite-curve_in_range c = denied 5 _ (simp (c.curve_in_range.ensures, c.finite.ensures) at c.if-not-finite-curve_in_range.true)

pub returns : goal.returns
unfolding subdivide4_call halves_finite
returns c =
    settled 5 _ (subdivide4_same _ _ _ _ _)
    (simp (c.curve_in_range.ensures, c.finite.ensures) at c.if-not-finite-curve_in_range.false)
    (simp (c.point_finite.ensures, c.subdivide4-h.ensures) at c.finite_end.ensures)
