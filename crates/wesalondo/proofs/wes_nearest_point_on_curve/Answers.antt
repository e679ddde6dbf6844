-- `wesalondo::wes_nearest_point_on_curve` meets its contract.
use Rattle.wesalondo.proofs.wes_nearest_point_on_curve.Goals as goal

pub returns : goal.returns
returns c = rw (c.put_nearest.ensures, c.nearest_point_on_curve-answer.ensures, c.curve_of-c.ensures)
