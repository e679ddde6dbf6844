-- `path_list::list_path` meets its contract.
use native.Mathlib.Omega.{arith}
use Rattle.lines.proofs.Handed.{over-front}
use Rattle.path_list.proofs.list_path.Goals as goal

pub returns : goal.returns
returns c = over-front c.put_list-size.ensures.1 (omega arith) _ c.hand_over.ensures
