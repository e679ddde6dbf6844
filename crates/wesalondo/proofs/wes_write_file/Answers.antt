-- `wesalondo::wes_write_file` meets its contract.
use mathlib.Core.Path.{ap, sym}
use Rattle.wesalondo.specs.Left.{left_by_writer}
use Rattle.wesalondo.proofs.wes_write_file.Goals as goal

pub returns : goal.returns
returns c = rw (c.put_count.ensures, sym c.form_for-form.ensures) (ap left_by_writer c.write_file-answer.ensures)
