-- `float::number_or` meets its contract.
use Rattle.float.specs.Number.{number_or}
use Rattle.float.proofs.Truth.{picked, passed}
use Rattle.float.proofs.Bits.{is_number, is_nan_is}
use Rattle.float.proofs.number_or.Goals as goal

pub returns-then-b : goal.returns-then-b
unfolding number_or
returns-then-b c = passed _ _ (is_number c.args.b c.if-b.true)

pub returns : goal.returns
unfolding number_or
returns c = picked _ _ (is_nan_is c.args.b c.if-b.false)
