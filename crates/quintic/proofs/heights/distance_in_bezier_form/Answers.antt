-- `quintic::heights::distance_in_bezier_form` meets its contract.
use Rattle.quintic.specs.Heights.{distance_form}
use Rattle.quintic.proofs.heights.distance_in_bezier_form.Goals as goal

pub returns : goal.returns
unfolding distance_form
returns c = simp (c.over_unit.ensures, c.weighted.ensures, c.offsets_from-d.ensures)
