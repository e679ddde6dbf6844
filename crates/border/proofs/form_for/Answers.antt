-- `border::form_for` meets its contract.
use mathlib.Core.Path.{refl}
use Rattle.border.proofs.form_for.Goals as goal

pub returns-then-nine : goal.returns-then-nine
returns-then-nine c = rw c.if-nine.true refl

pub returns : goal.returns
returns c = rw c.if-nine.false refl
