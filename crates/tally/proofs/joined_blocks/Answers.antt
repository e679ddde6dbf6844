-- `tally::joined_blocks` meets its contract.
use Prim.Native.Nat.{◌-◌}
use native.Mathlib.Nat.{div-le_self}
use native.Mathlib.Omega.{arith}
use Rattle.tally.proofs.Counts.{none, some, positive}
use Rattle.tally.proofs.joined_blocks.Goals as goal

pub returns-then-n-lt2 : goal.returns-then-n-lt2
returns-then-n-lt2 c = none _ (omega arith)

pub nonzero_div-result : goal.nonzero_div-result
nonzero_div-result c = omega (arith, positive _ _ c.max_points_to_fit.ensures)

pub overflow_add-result : goal.overflow_add-result
overflow_add-result c = omega (arith, div-le_self (c.args.n - 2) c.max_points_to_fit.result)

pub returns : goal.returns
returns c = rw c.max_points_to_fit.ensures (some _ (omega arith))
