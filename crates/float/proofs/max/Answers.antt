-- `float::max` meets its contract.
use mathlib.Core.Path.{◌∙◌}
use Rattle.float.specs.Number.{max_of}
use Rattle.float.proofs.Truth.{picked, passed}
use Rattle.float.proofs.max.Goals as goal

pub returns-then-a-b : goal.returns-then-a-b
unfolding max_of
returns-then-a-b c = picked _ _ c.if-a-b.true

pub returns : goal.returns
unfolding max_of
returns c = c.number_or.ensures ∙ passed _ _ c.if-a-b.false
