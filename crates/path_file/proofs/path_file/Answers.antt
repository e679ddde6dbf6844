-- `path_file::path_file` meets its contract.
use native.Mathlib.Omega.{arith}
use Rattle.lines.proofs.Handed.{over-front}
use Rattle.path_file.proofs.path_file.Goals as goal

pub returns : goal.returns
returns c = over-front c.put_path-size.ensures.1 (omega arith) _ c.hand_over.ensures
