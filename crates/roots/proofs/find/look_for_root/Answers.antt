-- `roots::find::look_for_root` meets its contract.
use mathlib.Core.Path.{◌∙◌}
use Rattle.float.proofs.Refusals.{handed_on}
use Rattle.roots.proofs.Looks.{seen-root}
use Rattle.roots.proofs.find.look_for_root.Goals as goal

pub returns-in_err-t : goal.returns-in_err-t
returns-in_err-t c = handed_on _ _ c.from_residual.ensures.1 ∙ seen-root _ _ c.in_err-t.ensures

pub returns : goal.returns
returns c = seen-root _ _ c.in_ok-t.ensures
