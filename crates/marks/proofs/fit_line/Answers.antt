-- `marks::fit_line` meets its contract.
use Rattle.marks.proofs.Fine.{line_made, line_lost}
use Rattle.marks.specs.Line.{line_of}
use Rattle.marks.proofs.fit_line.Goals as goal

pub returns-then-point_finite : goal.returns-then-point_finite
unfolding line_of
returns-then-point_finite c = line_made _ _ _ (simp (c.add-cp2.ensures, c.scale-2.ensures, c.add-cp1.ensures, c.scale.ensures, c.sub-direction.ensures)) (simp (c.point_finite-2.ensures, c.point_finite.ensures) at c.if-point_finite.true)

pub returns : goal.returns
unfolding line_of
returns c = line_lost _ _ (record { start = c.args.p1; cp1 = c.add-cp1.result; cp2 = c.add-cp2.result; end = c.args.p2 }) (simp (c.add-cp2.ensures, c.scale-2.ensures, c.add-cp1.ensures, c.scale.ensures, c.sub-direction.ensures)) (simp (c.point_finite-2.ensures, c.point_finite.ensures) at c.if-point_finite.false)
