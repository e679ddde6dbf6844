-- `nearest::choose::distance_sq_at` meets its contract.
use Rattle.nearest.specs.Choose.{distance_sq}
use Rattle.nearest.proofs.choose.distance_sq_at.Goals as goal

pub returns : goal.returns
unfolding distance_sq
returns c = simp (c.dot.ensures, c.sub-offset.ensures, c.point_at_pos.ensures)
