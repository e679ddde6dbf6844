-- `wesalondo::wes_salvage` meets its contract.
use mathlib.Core.Path.{ap}
use Rattle.wesalondo.specs.Left.{left_by_salvage}
use Rattle.wesalondo.proofs.wes_salvage.Goals as goal

pub returns : goal.returns
returns c = rw c.put_salvaged.ensures (ap left_by_salvage c.salvage-answer.ensures)
