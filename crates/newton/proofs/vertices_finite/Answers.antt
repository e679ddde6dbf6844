-- `newton::vertices_finite` meets its contract.
use Rattle.newton.specs.Tests.{vertices_finite}
use Rattle.newton.proofs.vertices_finite.Goals as goal

pub returns : goal.returns
unfolding vertices_finite
returns c = simp (c.point_finite-2.ensures, c.point_finite.ensures)
