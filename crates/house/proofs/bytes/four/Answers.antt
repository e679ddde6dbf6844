-- `house::bytes::four` meets its contract.
use native.Mathlib.Omega.{arith}
use Rattle.house.proofs.Numbers.{num-four}
use Rattle.house.proofs.bytes.four.Goals as goal

pub returns : goal.returns
returns c = (omega (arith, num-four c.args.b.now c.args.at c.requires), omega arith)
