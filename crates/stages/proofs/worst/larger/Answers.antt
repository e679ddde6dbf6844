-- `stages::worst::larger` meets its contract.
use Rattle.float.proofs.Truth.{picked, passed}
use Rattle.stages.specs.Worst.{larger}
use Rattle.stages.proofs.worst.larger.Goals as goal

pub returns-then-e-w : goal.returns-then-e-w
unfolding larger
returns-then-e-w c = picked _ _ c.if-e-w.true

pub returns : goal.returns
unfolding larger
returns c = passed _ _ c.if-e-w.false
