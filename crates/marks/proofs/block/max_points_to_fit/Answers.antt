-- `marks::block::max_points_to_fit` meets its contract.
use native.Mathlib.Omega.{arith}
use Rattle.marks.proofs.Sizes.{small}
use Rattle.marks.proofs.block.max_points_to_fit.Goals as goal

pub returns-then-num_points-lt-MAX_POINTS_TO_FIT : goal.returns-then-num_points-lt-MAX_POINTS_TO_FIT
returns-then-num_points-lt-MAX_POINTS_TO_FIT c = small _ (omega arith)
