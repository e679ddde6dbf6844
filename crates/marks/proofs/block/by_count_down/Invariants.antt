-- What the loop of `marks::block::by_count_down` keeps.
use Rattle.marks.proofs.Sizes.{Down}
use Rattle.marks.proofs.block.by_count_down.Given as goal

abbrev pub invariant-loop-size : goal.invariant-loop-size
invariant-loop-size l = Down l.num_points l.size
