-- `wesalondo::wes_nearest_point_on_curve_newton_raphson_with_estimate` meets its contract.
use Rattle.wesalondo.proofs.wes_nearest_point_on_curve_newton_raphson_with_estimate.Goals as goal

pub returns : goal.returns
returns c = rw (c.put_refined.ensures, c.nearest_point_on_curve_newton_raphson_with_estimate-answer.ensures, c.curve_of-c.ensures)
