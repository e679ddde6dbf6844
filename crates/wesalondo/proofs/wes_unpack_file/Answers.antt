-- `wesalondo::wes_unpack_file` meets its contract.
use mathlib.Core.Path.{ap}
use Rattle.wesalondo.specs.Left.{left_with_text}
use Rattle.wesalondo.proofs.wes_unpack_file.Goals as goal

pub returns : goal.returns
returns c = rw c.put_count.ensures (ap left_with_text c.unpack_file-answer.ensures)
