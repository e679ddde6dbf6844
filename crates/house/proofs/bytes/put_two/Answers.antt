-- `house::bytes::put_two` meets its contract.
use Rattle.house.proofs.Turns.{le_two}
use Rattle.house.proofs.bytes.put_two.Goals as goal

pub returns : goal.returns
returns c = le_two c.args.out.now c.args.at c.args.x
