-- `flat::flat::flat_enough` meets its contract.
use mathlib.Core.Path.{sym, ◌∙◌}
use Rattle.flat.specs.Flat.{flat_enough}
use Rattle.flat.proofs.Baseline.{both, held_is, failed}
use Rattle.flat.proofs.flat.flat_enough.Goals as goal

pub returns-then-held : goal.returns-then-held
unfolding flat_enough
returns-then-held c = c.and_then.ensures ∙ both _ _ _ _ c.one_direction-t.ensures c.near_baseline.ensures

pub returns : goal.returns
unfolding flat_enough
returns c = c.one_direction-t.ensures ∙ failed _ _ (sym (held_is _ _ c.one_direction-t.ensures) ∙ sym c.held.ensures ∙ c.if-held.false)
