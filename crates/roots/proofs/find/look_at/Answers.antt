-- `roots::find::look_at` meets its contract.
use mathlib.Core.Path.{◌∙◌}
use Rattle.roots.proofs.Looks.{look_none, look_one, look_more}
use Rattle.roots.proofs.find.look_at.Goals as goal

pub returns-then-num_crossings-eq0 : goal.returns-then-num_crossings-eq0
returns-then-num_crossings-eq0 c = look_none _ _ _ c.count_x_axis_crossings-num_crossings.ensures c.if-num_crossings-eq0.true

pub returns-then-num_crossings-eq1 : goal.returns-then-num_crossings-eq1
returns-then-num_crossings-eq1 c = c.look_at_one.ensures ∙ look_one _ _ _ c.count_x_axis_crossings-num_crossings.ensures c.if-num_crossings-eq0.false c.if-num_crossings-eq1.true

pub returns : goal.returns
returns c = c.halve.ensures ∙ look_more _ _ _ c.count_x_axis_crossings-num_crossings.ensures c.if-num_crossings-eq0.false c.if-num_crossings-eq1.false
