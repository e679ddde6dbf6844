-- `path_list::put_path` meets its contract.
use native.Mathlib.Omega.{arith}
use Rattle.path_list.proofs.Lines.{put-path_lines}
use Rattle.path_list.proofs.put_path.Goals as goal

pub returns : goal.returns
returns c = (omega arith, put-path_lines c.args.k c.args.closed c.args.curves.now c.put_head-pieces.ensures.1 c.put_curves.ensures.1)
