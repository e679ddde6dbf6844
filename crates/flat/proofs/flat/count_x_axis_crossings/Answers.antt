-- `flat::flat::count_x_axis_crossings` meets its contract.
use Rattle.flat.specs.Flat.{crossings}
use Rattle.flat.proofs.flat.count_x_axis_crossings.Goals as goal

pub returns : goal.returns
unfolding crossings
returns c = simp (c.crosses-5.ensures.value, c.crosses-4.ensures.value, c.crosses-3.ensures.value, c.crosses-2.ensures.value, c.crosses.ensures.value)
