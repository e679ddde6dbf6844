-- `checker::check_firsts` meets its contract.
use native.Mathlib.Omega.{arith}
use mathlib.Core.Path.{refl}
use Rattle.checker.specs.Check.{in_turn}
use Rattle.checker.proofs.Firsts.{none_listed, many_listed, rising-more, rising_stop, rising_end}
use Rattle.checker.proofs.check_firsts.Goals as goal

pub returns-then-count-eq0 : goal.returns-then-count-eq0
returns-then-count-eq0 c = none_listed c.args.n c.args.count c.args.firsts.now c.if-count-eq0.true

pub returns-then-count-n : goal.returns-then-count-n
returns-then-count-n c = many_listed c.args.n c.args.count c.args.firsts.now (omega arith)

pub loop-j-init : goal.loop-j-init
unfolding in_turn
loop-j-init c = (omega arith, refl)

pub loop-j-preserved : goal.loop-j-preserved
loop-j-preserved c = rising-more c.args.n c.args.count c.args.firsts.now c.loop-j.j c.loop-j.invariant c.loop-j-test.true c.rises_at.result c.rises_at.ensures c.if-not-rises_at.false

pub returns-then-not-rises_at : goal.returns-then-not-rises_at
returns-then-not-rises_at c = rising_stop c.args.n c.args.count c.args.firsts.now c.loop-j.j c.loop-j.invariant c.loop-j-test.true c.rises_at.result c.rises_at.ensures (omega arith) (omega arith) c.if-not-rises_at.true

pub returns : goal.returns
returns c = rising_end c.args.n c.args.count c.args.firsts.now c.loop-j.j c.loop-j.invariant (omega arith) (omega arith) c.loop-j-test.false
