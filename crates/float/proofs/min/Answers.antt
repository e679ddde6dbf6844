-- `float::min` meets its contract.
use mathlib.Core.Path.{◌∙◌}
use Rattle.float.specs.Number.{min_of}
use Rattle.float.proofs.Truth.{picked, passed}
use Rattle.float.proofs.min.Goals as goal

pub returns-then-a-b : goal.returns-then-a-b
unfolding min_of
returns-then-a-b c = picked _ _ c.if-a-b.true

pub returns : goal.returns
unfolding min_of
returns c = c.number_or.ensures ∙ passed _ _ c.if-a-b.false
