-- `tangents::ways_round` meets its contract.
use mathlib.Core.Path.{◌∙◌}
use Rattle.float.proofs.Refusals.{handed_on}
use Rattle.plane.specs.declared.Point.{Point}
use Rattle.tangents.specs.declared.Ways.{Ways}
use Rattle.joints.specs.Joints.{opposite}
use Rattle.tangents.specs.Ways.{ways_at}
use Rattle.tangents.proofs.Cuts.{no_first, no_second, both}
use Rattle.tangents.proofs.ways_round.Goals as goal

abbrev made : Point → Point → Ways
made t u = record { end = t; start = u }

pub returns-in_err-end : goal.returns-in_err-end
unfolding ways_at
returns-in_err-end c = handed_on _ _ c.from_residual.ensures.1 ∙ no_first _ opposite made _ c.in_err-end.ensures

pub returns-in_err-start : goal.returns-in_err-start
unfolding ways_at
returns-in_err-start c = handed_on _ _ c.from_residual-in_err-start.ensures.1 ∙ no_second _ opposite made _ c.in_ok-end.ensures _ c.in_err-start.ensures

pub returns : goal.returns
unfolding ways_at
returns c = both _ opposite made _ c.in_ok-end.ensures _ c.in_ok-start.ensures
