-- `wesalondo::wes_read_file` meets its contract.
use mathlib.Core.Path.{ap}
use Rattle.wesalondo.specs.Left.{left_by_reader}
use Rattle.wesalondo.proofs.wes_read_file.Goals as goal

pub returns : goal.returns
returns c = rw c.put_read.ensures (ap left_by_reader c.read_file-answer.ensures)
