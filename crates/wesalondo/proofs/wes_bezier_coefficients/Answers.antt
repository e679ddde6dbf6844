-- `wesalondo::wes_bezier_coefficients` meets its contract.
use Rattle.wesalondo.proofs.wes_bezier_coefficients.Goals as goal

pub returns : goal.returns
returns c = rw (c.put_coefficients.ensures, c.bezier_coefficients-answer.ensures, c.curve_of-c.ensures)
