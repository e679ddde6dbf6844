-- `fit::are_tangents` meets its contract.
use Rattle.fit.specs.Fit.{are_tangents}
use Rattle.fit.proofs.are_tangents.Goals as goal

pub returns : goal.returns
unfolding are_tangents
returns c = simp (c.is_component-4.ensures, c.is_component-3.ensures, c.is_component-2.ensures, c.is_component.ensures)
