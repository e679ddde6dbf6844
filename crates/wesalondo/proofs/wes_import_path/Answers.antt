-- `wesalondo::wes_import_path` meets its contract.
use mathlib.Core.Path.{ap}
use Rattle.wesalondo.specs.Left.{left_by_import}
use Rattle.wesalondo.proofs.wes_import_path.Goals as goal

pub returns : goal.returns
returns c = rw c.put_imported.ensures (ap left_by_import c.import_path-answer.ensures)
