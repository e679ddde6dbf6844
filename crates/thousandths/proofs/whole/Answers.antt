-- `thousandths::whole` meets its contract.
use native.Mathlib.Omega.{arith}
use Rattle.thousandths.proofs.Halves.{down_to, up_to}
use Rattle.thousandths.proofs.whole.Goals as goal

pub returns-then-n-d : goal.returns-then-n-d
returns-then-n-d c =
    down_to c.args.n c.args.d c.requires.1 c.requires.2 (omega arith)

pub returns : goal.returns
returns c =
    up_to c.args.n c.args.d c.requires.1 c.requires.2 (omega arith)
