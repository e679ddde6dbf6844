-- `checker::check_under` meets its contract.
use native.Mathlib.Omega.{arith}
use mathlib.Core.Path.{refl, sym, ◌∙◌}
use Rattle.marks.specs.Marks.{count}
use Rattle.checker.proofs.Turns.{halted}
use Rattle.checker.proofs.Walks.{walk-given, walk_halted, walk-again}
use Rattle.checker.proofs.check_under.Goals as goal

pub returns-then-stop-given : goal.returns-then-stop-given
returns-then-stop-given c =
    let a = c.args in
    let h = c.requires in
    walk-given a.tolerance a.n a.j a.first a.c a.marks.now a.params.now a.stop _ _ c.marks_under-all.ensures refl (omega arith) h.params c.check_marks.ensures

pub returns-in_err-far : goal.returns-in_err-far
returns-in_err-far c =
    let a = c.args in
    let h = c.requires in
    let most = walk-given a.tolerance a.n a.j a.first a.c a.marks.now a.params.now (count a.marks.now) _ _ c.marks_under-most.ensures refl (omega arith) (omega arith) c.in_err-far.ensures in
    halted _ _ c.from_residual.ensures.1 ∙ walk_halted a.tolerance a.n a.j a.first a.c a.marks.now a.params.now a.stop h.given (omega arith) most refl

pub returns : goal.returns
returns c =
    let a = c.args in
    let h = c.requires in
    let most = walk-given a.tolerance a.n a.j a.first a.c a.marks.now a.params.now (count a.marks.now) _ _ c.marks_under-most.ensures refl (omega arith) (omega arith) c.in_ok-far.ensures in
    walk-again a.tolerance a.n a.j a.first a.c a.marks.now a.params.now a.stop h.given (omega arith) h.even _ _ _ (omega arith) c.marks_under-again.ensures refl h.params (sym most) c.check_marks-3.ensures
