-- `wesalondo::wes_fit_curve_loop` meets its contract.
use mathlib.Core.Path.{ap}
use Rattle.wesalondo.specs.Left.{left_by}
use Rattle.wesalondo.proofs.wes_fit_curve_loop.Goals as goal

pub returns : goal.returns
returns c = rw c.put_count.ensures (ap left_by c.fit_curve_loop-answer.ensures)
