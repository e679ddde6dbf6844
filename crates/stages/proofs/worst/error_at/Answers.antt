-- `stages::worst::error_at` meets its contract.
use Rattle.stages.specs.Worst.{error_of}
use Rattle.stages.proofs.worst.error_at.Goals as goal

pub returns : goal.returns
unfolding error_of
returns c = simp (c.dot.ensures, c.sub-offset.ensures, c.point_at_pos.ensures, c.mark_at.ensures)
