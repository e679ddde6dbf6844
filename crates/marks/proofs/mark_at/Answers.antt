-- `marks::mark_at` meets its contract.
use mathlib.Core.Path.{refl}
use Rattle.marks.specs.Marks.{mark_at}
use Rattle.marks.proofs.mark_at.Goals as goal

pub returns : goal.returns
unfolding mark_at
returns c = refl
