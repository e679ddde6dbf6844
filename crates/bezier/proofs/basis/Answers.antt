-- `bezier::basis` meets its promise.
use Rattle.float.proofs.Answers.{denied, settled}
use Rattle.bezier.specs.Calls.{basis_call}
use Rattle.cubic.proofs.Fine.{basis_same}
use Rattle.bezier.proofs.basis.Goals as goal

pub returns-then-not-finite-curve_in_range : goal.returns-then-not-finite-curve_in_range
unfolding basis_call
returns-then-not-finite-curve_in_range c = denied 5 _ (simp (c.curve_in_range.ensures, c.finite.ensures) at c.if-not-finite-curve_in_range.true)

pub returns : goal.returns
unfolding basis_call
returns c =
    settled 5 _ (basis_same _ _ _ _ _)
    (simp (c.curve_in_range.ensures, c.finite.ensures) at c.if-not-finite-curve_in_range.false)
    (simp (c.point_finite.ensures, c.basis-p.ensures) at c.finite_end.ensures)
