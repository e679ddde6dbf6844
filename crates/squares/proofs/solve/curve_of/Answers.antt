-- `squares::solve::curve_of` meets its contract.
use Rattle.squares.proofs.Controls.{curve_made, curve_lost}
use Rattle.squares.specs.Solve.{curve_of}
use Rattle.squares.proofs.solve.curve_of.Goals as goal

pub returns-then-point_finite : goal.returns-then-point_finite
unfolding curve_of
returns-then-point_finite c = curve_made _ _ _ _ _ _ _ (simp (c.add-cp2.ensures, c.scale-2.ensures, c.add-cp1.ensures, c.scale.ensures)) (simp (c.point_finite-2.ensures, c.point_finite.ensures) at c.if-point_finite.true)

pub returns : goal.returns
unfolding curve_of
returns c = curve_lost _ _ _ _ _ _ (record { start = c.args.first; cp1 = c.add-cp1.result; cp2 = c.add-cp2.result; end = c.args.last }) (simp (c.add-cp2.ensures, c.scale-2.ensures, c.add-cp1.ensures, c.scale.ensures)) (simp (c.point_finite-2.ensures, c.point_finite.ensures) at c.if-point_finite.false)
