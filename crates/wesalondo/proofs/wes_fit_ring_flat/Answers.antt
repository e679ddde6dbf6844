-- `wesalondo::wes_fit_ring_flat` meets its contract.
use mathlib.Core.Path.{ap}
use Rattle.wesalondo.specs.Left.{left_by_flat}
use Rattle.wesalondo.proofs.wes_fit_ring_flat.Goals as goal

pub returns : goal.returns
returns c = rw c.put_count.ensures (ap left_by_flat c.fit_ring_flat-answer.ensures)
