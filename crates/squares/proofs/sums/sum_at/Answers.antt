-- `squares::sums::sum_at` meets its contract.
use Rattle.squares.specs.Sums.{sum_at}
use Rattle.squares.proofs.sums.sum_at.Goals as goal

pub returns : goal.returns
unfolding sum_at
returns c = simp (c.gather.ensures, c.mark_at-3.ensures, c.mark_at-2.ensures, c.mark_at.ensures)
