-- `path_list::put_closed` meets its contract.
use native.Mathlib.Omega.{arith}
use mathlib.Core.List.{[], ◌∷◌}
use Rattle.text.proofs.Stores.{one}
use Rattle.path_list.specs.PathList.{closed_word}
use Rattle.path_list.proofs.put_closed.Goals as goal

pub returns-then-closed : goal.returns-then-closed
unfolding closed_word
returns-then-closed c = (omega arith, rw c.if-closed.true (one _ _ (32 ∷ 67 ∷ 76 ∷ 79 ∷ 83 ∷ 69 ∷ 68 ∷ 10 ∷ []) c.put_bytes.ensures))

pub returns : goal.returns
unfolding closed_word
returns c = (omega arith, rw c.if-closed.false (one _ _ (32 ∷ 79 ∷ 80 ∷ 69 ∷ 78 ∷ 10 ∷ []) c.put_bytes-2.ensures))
