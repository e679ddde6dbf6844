-- `house::bytes::two` meets its contract.
use native.Mathlib.Omega.{arith}
use Rattle.house.proofs.Numbers.{num_two}
use Rattle.house.proofs.bytes.two.Goals as goal

pub returns : goal.returns
returns c = (omega (arith, num_two c.args.b.now c.args.at c.requires), omega arith)
