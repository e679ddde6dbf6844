-- `wesalondo::wes_check` meets its contract.
use mathlib.Core.Path.{refl}
use Rattle.wesalondo.proofs.wes_check.Goals as goal

pub returns : goal.returns
returns c = rw (c.put_checked.ensures, c.check-answer.ensures, c.form_for-form.ensures, c.outline_for-outline.ensures) refl
