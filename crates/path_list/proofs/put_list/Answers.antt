-- `path_list::put_list` meets its contract.
use native.Mathlib.Omega.{arith}
use Rattle.path_list.proofs.Ways.{list_long, list-drawn}
use Rattle.path_list.proofs.put_list.Goals as goal

pub returns-then-text-gt-MOST_BYTES : goal.returns-then-text-gt-MOST_BYTES
returns-then-text-gt-MOST_BYTES c = (omega arith, rw (list_long c.args.text.now (omega arith), ← c.number.ensures) c.put_refusal.ensures.1)

pub returns : goal.returns
returns c = (omega arith, rw (list-drawn c.args.text.now (omega arith)) c.put_drawn.ensures.1)
