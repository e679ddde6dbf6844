-- `cubic::eval::point_at_pos` meets its contract.
use Rattle.cubic.specs.Basis.{point_at}
use Rattle.cubic.proofs.eval.point_at_pos.Goals as goal

pub returns : goal.returns
unfolding point_at
returns c = simp c.basis.ensures
