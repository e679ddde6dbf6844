-- `import::put_eight` meets its contract.
use mathlib.Core.Path.{refl}
use Rattle.path.specs.Curves.{eights}
use Rattle.import.proofs.put_eight.Goals as goal

pub returns : goal.returns
unfolding eights
returns c = rw c.copy_from_slice.ensures.after refl
