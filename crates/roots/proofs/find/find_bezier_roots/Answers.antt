-- `roots::find::find_bezier_roots` meets its contract: what is left to answer stays the same.
use Rattle.std.proofs.Common.{arith}
use Rattle.float.proofs.Refusals.{handed_on}
use Rattle.roots.specs.Find.{find_roots}
use Rattle.roots.specs.Tests.{roots_answer}
use Rattle.roots.proofs.Stack.{stack_of, full, done, stops, passes, finds, low, fits, splits, alike, roots-refused}
use Rattle.roots.proofs.find.find_bezier_roots.Goals as goal
use Rattle.roots.proofs.find.find_bezier_roots.Goals.{in-Nothing, in-Root, in-Halved, else-loop-test, then-loop-test+then-waiting-eq0}

pub returns-in_err-look_at-clause-found : goal.returns-in_err-look_at-clause-found
unfolding find_roots stack_of
returns-in_err-look_at-clause-found c =
    roots-refused _ _ _ _ (handed_on _ _ c.from_residual.ensures.1)
    (stops _ _ _ _ _ _ _ c.loop.invariant (omega arith) c.loop-test.true _ c.in_err-look_at.ensures)

pub overflow_add-sections : goal.overflow_add-sections
overflow_add-sections c =
    omega (arith, low _ _ _ _ _ _ _ c.loop.invariant (omega arith) c.loop-test.true c.in-Halved.halves (rw c.in-Halved.is at c.in_ok-look_at.ensures))

pub overflow_add-sections-in-Halved : goal.overflow_add-sections-in-Halved
overflow_add-sections-in-Halved c =
    omega (arith, low _ _ _ _ _ _ _ c.loop.invariant (omega arith) c.loop-test.true c.in-Halved.halves (rw c.in-Halved.is at c.in_ok-look_at.ensures))

pub bounds-sections-waiting-in-Halved-2 : goal.bounds-sections-waiting-in-Halved-2
bounds-sections-waiting-in-Halved-2 c =
    omega (arith, fits _ _ _ _ _ _ _ c.loop.invariant (omega arith) c.loop-test.true c.in-Halved.halves (rw c.in-Halved.is at c.in_ok-look_at.ensures))

pub loop-preserved : goal.loop-preserved
loop-preserved c = elim c.match-branch-2.branch [
  | in-Nothing w ↦
      alike _ _ _ _ _ _ _ _
      (passes _ _ _ _ _ _ _ c.loop.invariant (omega arith) c.loop-test.true (rw w.in-Nothing.is at c.in_ok-look_at.ensures))
      w.roots-is w.sections-is w.waiting-is w.found-is
  | in-Root w ↦
      alike _ _ _ _ _ _ _ _
      (finds _ _ _ _ _ _ _ c.loop.invariant (omega arith) c.loop-test.true w.in-Root.t (rw w.in-Root.is at c.in_ok-look_at.ensures))
      w.roots-is w.sections-is w.waiting-is w.found-is
  | in-Halved w ↦
      alike _ _ _ _ _ _ _ _
      (splits _ _ _ _ _ _ _ c.loop.invariant (omega arith) c.loop-test.true w.in-Halved.halves (rw w.in-Halved.is at c.in_ok-look_at.ensures))
      w.roots-is w.sections-is w.waiting-is w.found-is
]

pub returns-then-waiting-gt0-clause-found : goal.returns-then-waiting-gt0-clause-found
unfolding find_roots stack_of roots_answer
returns-then-waiting-gt0-clause-found c = elim c.loop-test.branch [
  | else-loop-test w ↦ full _ _ _ _ _ _ _ c.loop.invariant (omega arith) (omega arith)
  | then-loop-test+then-waiting-eq0 w ↦ absurd (omega arith)
]

pub returns-clause-found : goal.returns-clause-found
unfolding find_roots stack_of roots_answer
returns-clause-found c = done _ _ _ _ _ _ _ c.loop.invariant (omega arith)
