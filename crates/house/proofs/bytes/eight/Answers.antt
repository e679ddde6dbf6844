-- `house::bytes::eight` meets its contract.
use native.Mathlib.Omega.{arith}
use Rattle.house.proofs.Numbers.{num-eight}
use Rattle.house.proofs.bytes.eight.Goals as goal

pub returns : goal.returns
returns c = omega (arith, num-eight c.args.b.now c.args.at c.requires)
