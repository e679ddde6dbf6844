-- `part::judge` meets its contract.
use Rattle.part.proofs.Trials.{picked_good, picked_cut}
use Rattle.part.proofs.judge.Goals as goal

pub returns-then-s-tolerance : goal.returns-then-s-tolerance
returns-then-s-tolerance c = picked_good c.args.s c.args.tolerance c.if-s-tolerance.true

pub returns : goal.returns
returns c = picked_cut c.args.s c.args.tolerance c.if-s-tolerance.false
