-- `wesalondo::wes_export_path` meets its contract.
use mathlib.Core.Path.{ap}
use Rattle.wesalondo.specs.Left.{left_with_text}
use Rattle.wesalondo.proofs.wes_export_path.Goals as goal

pub returns : goal.returns
returns c = rw (c.put_count.ensures, ← c.form_for-form.ensures) (ap left_with_text c.export_path-answer.ensures)
