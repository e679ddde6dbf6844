-- `marks::block::by_division` meets its contract.
use native.Mathlib.Omega.{arith}
use Rattle.marks.proofs.Sizes.{start, found}
use Rattle.marks.proofs.Division.{shares, shrunk}
use Rattle.marks.proofs.block.by_division.Goals as goal

pub returns-then-r-ge-MIN_POINTS_TO_FIT : goal.returns-then-r-ge-MIN_POINTS_TO_FIT
returns-then-r-ge-MIN_POINTS_TO_FIT c = found _ _ (start _ (omega arith)) (omega arith) (omega arith)

pub returns : goal.returns
returns c = shrunk _ _ _ _ (shares _ _ (omega arith) (omega arith) (omega arith) (omega arith))
