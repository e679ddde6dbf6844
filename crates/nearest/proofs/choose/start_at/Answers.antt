-- `nearest::choose::start_at` meets its contract.
use Rattle.nearest.proofs.Candidates.{starts}
use Rattle.nearest.proofs.choose.start_at.Goals as goal

pub returns : goal.returns
returns c = simp c.finite.ensures (starts _ _ _ c.distance_sq_at-d.ensures)
