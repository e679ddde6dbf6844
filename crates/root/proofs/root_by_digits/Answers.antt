-- `root::root_by_digits` meets its contract: the loop's invariant is `Digits`.
use native.Mathlib.Omega.{arith}
use Rattle.root.proofs.Digits.{top, turn_one, turn-zero, moved}
use Rattle.root.proofs.root_by_digits.Goals as goal
use Rattle.root.proofs.root_by_digits.Goals.{then-trial-next, else-trial-next}

pub overflow_mul-next : goal.overflow_mul-next
overflow_mul-next c = omega (arith, top _ _ _ _ _ c.loop-turn.invariant)

pub overflow_add-next : goal.overflow_add-next
overflow_add-next c = omega (arith, top _ _ _ _ _ c.loop-turn.invariant)

pub overflow_mul-trial : goal.overflow_mul-trial
overflow_mul-trial c = omega (arith, top _ _ _ _ _ c.loop-turn.invariant)

pub overflow_add-trial : goal.overflow_add-trial
overflow_add-trial c = omega (arith, top _ _ _ _ _ c.loop-turn.invariant)

pub loop-turn-preserved : goal.loop-turn-preserved
loop-turn-preserved c =
    let a = c.args.a in
    let l = c.loop-turn in
    elim c.if-trial-next.branch [
      | then-trial-next w ↦ moved w.root-is w.rest-is (turn_one a l.root l.rest l.left l._turn l.invariant c.loop-turn-test.true w.if-trial-next.true)
      | else-trial-next w ↦ moved w.root-is w.rest-is (turn-zero a l.root l.rest l.left l._turn l.invariant c.loop-turn-test.true w.if-trial-next.false)
    ]
