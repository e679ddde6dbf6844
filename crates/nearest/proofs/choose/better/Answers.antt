-- `nearest::choose::better` meets its contract.
use Rattle.nearest.proofs.Candidates.{wins, loses}
use Rattle.nearest.proofs.choose.better.Goals as goal

pub returns-then-d-best : goal.returns-then-d-best
returns-then-d-best c = simp c.finite.ensures (wins _ _ _ _ c.distance_sq_at-d.ensures _ c.if-d-best.true)

pub returns : goal.returns
returns c = simp c.finite.ensures (loses _ _ _ _ c.distance_sq_at-d.ensures _ c.if-d-best.false)
