-- `thousandths::nearest` meets its contract.
use Rattle.thousandths.proofs.Quotient.{plus_is, minus_is}
use Rattle.thousandths.proofs.nearest.Goals as goal

pub returns-then-d : goal.returns-then-d
returns-then-d c =
    minus_is c.args.d c.requires c.if-d.true

pub returns : goal.returns
returns c =
    plus_is c.args.d c.requires c.if-d.false
