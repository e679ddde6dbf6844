-- `nearest::choose::better_root` meets its contract.
use mathlib.Core.Path.{◌∙◌}
use Rattle.float.proofs.Truth.{picked, passed}
use Rattle.nearest.specs.Choose.{inside}
use Rattle.nearest.proofs.choose.better_root.Goals as goal

pub returns-then-t : goal.returns-then-t
unfolding inside
returns-then-t c = c.better.ensures ∙ picked _ _ c.if-t.true

pub returns : goal.returns
unfolding inside
returns c = passed _ _ c.if-t.false
