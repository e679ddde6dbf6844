-- `root::bits_of` meets its contract.
use Rattle.float.proofs.Truth.{picked, passed}
use Rattle.root.specs.Guess.{bits_of}
use Rattle.root.proofs.bits_of.Goals as goal

pub returns-then-x : goal.returns-then-x
unfolding bits_of
returns-then-x c = picked _ _ c.if-x.true

pub returns : goal.returns
unfolding bits_of
returns c = passed _ _ c.if-x.false
