-- `plane::unit_by` meets its contract.
use Rattle.plane.proofs.Fine.{no_direction, its_direction}
use Rattle.plane.proofs.unit_by.Goals as goal

pub returns-then-magnitude : goal.returns-then-magnitude
returns-then-magnitude c = no_direction _ _ c.if-magnitude.true

pub returns : goal.returns
returns c = its_direction _ _ _ c.if-magnitude.false c.scale.ensures
