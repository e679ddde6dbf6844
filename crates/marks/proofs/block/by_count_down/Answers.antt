-- `marks::block::by_count_down` meets its contract.
use native.Mathlib.Omega.{arith}
use Rattle.marks.proofs.Sizes.{start, found, next, end}
use Rattle.marks.proofs.block.by_count_down.Goals as goal

pub loop-size-init : goal.loop-size-init
loop-size-init c = start _ (omega arith)

pub returns-then-num_points-size-ge-MIN_POINTS_TO_FIT : goal.returns-then-num_points-size-ge-MIN_POINTS_TO_FIT
returns-then-num_points-size-ge-MIN_POINTS_TO_FIT c = found _ _ c.loop-size.invariant c.loop-size-test.true (omega arith)

pub loop-size-preserved : goal.loop-size-preserved
loop-size-preserved c = next _ _ c.loop-size.invariant c.loop-size-test.true (omega arith)

pub returns : goal.returns
returns c = end _ _ c.loop-size.invariant (omega arith)
