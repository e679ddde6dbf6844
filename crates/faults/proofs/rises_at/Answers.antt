-- `faults::rises_at` meets its contract.
use Rattle.faults.proofs.Firsts.{rises_first, rises_later}
use Rattle.faults.proofs.rises_at.Goals as goal

pub returns-then-j-eq0 : goal.returns-then-j-eq0
returns-then-j-eq0 c = rw c.first_at-first.ensures (rises_first c.args.n c.args.firsts.now c.args.j c.if-j-eq0.true)

pub returns : goal.returns
returns c = rw (c.first_at.ensures, c.first_at-first.ensures) (rises_later c.args.n c.args.firsts.now c.args.j c.if-j-eq0.false)
