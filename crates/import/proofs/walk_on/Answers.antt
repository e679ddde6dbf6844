-- `import::walk_on` meets its contract.
use mathlib.Core.Path.{◌∙◌}
use native.Mathlib.Omega.{arith}
use Rattle.import.proofs.Walks.{turn_marked, turn_shorter, turn, turn-closed, turn-ended, turn-refused}
use Rattle.import.proofs.walk_on.Goals as goal

pub loop-by-smaller : goal.loop-by-smaller
loop-by-smaller c = turn_shorter _ _ _ _ _ c.in_ok-by.ensures c.in-Drawn.is

pub loop-by-preserved : goal.loop-by-preserved
loop-by-preserved c = (
  c.put_curve.auto.out ∙ c.loop-by.invariant.0,
  omega (arith, turn_shorter _ _ _ _ _ c.in_ok-by.ensures c.in-Drawn.is),
  turn_marked _ _ _ _ _ c.in_ok-by.ensures c.in-Drawn.is,
  turn _ _ _ _ _ c.in_ok-by.ensures c.in-Drawn.is c.args.start _ _ _ c.loop-by.invariant.3 c.put_curve.ensures,
)

pub returns-in-Closed : goal.returns-in-Closed
returns-in-Closed c = turn-closed _ _ _ _ _ c.in_ok-by.ensures c.args.start _ _ _ c.loop-by.invariant.3 c.in-Closed.is c.close.ensures

pub returns-in-Ended : goal.returns-in-Ended
returns-in-Ended c = turn-ended _ _ _ _ _ c.in_ok-by.ensures c.args.start _ _ _ c.loop-by.invariant.3 c.in-Ended.is

pub returns-in_err-by : goal.returns-in_err-by
returns-in_err-by c = rw c.from_residual.ensures (turn-refused c.args.text.now c.loop-by.at c.loop-by.letter c.loop-by.p c.in_err-by.ensures c.args.start c.loop-by.count c.loop-by.small c.loop-by.out c.loop-by.invariant.3)
