-- `checker::check` meets its contract.
use mathlib.Core.Path.{sym}
use Rattle.checker.specs.Check.{checked_answer}
use Rattle.checker.proofs.Lists.{by_gate, by_list}
use Rattle.checker.proofs.check.Goals as goal

pub returns-in-Err : goal.returns-in-Err
unfolding checked_answer
returns-in-Err c =
    let a = c.args in
    by_gate a.outline a.form a.marks.now a.tolerance a.count a.curves.now a.firsts.now a.worsts.now a.params.now _ c.in-Err.ensures

pub returns-in-Ok : goal.returns-in-Ok
unfolding checked_answer
returns-in-Ok c =
    let a = c.args in
    by_list a.outline a.form a.marks.now a.tolerance a.count a.curves.now a.firsts.now a.worsts.now a.params.now (sym c.in_default.ensures) c.in-Ok.ensures

pub returns-in-Err-check_all : goal.returns-in-Err-check_all
unfolding checked_answer
returns-in-Err-check_all c =
    let a = c.args in
    by_list a.outline a.form a.marks.now a.tolerance a.count a.curves.now a.firsts.now a.worsts.now a.params.now (sym c.in_default.ensures) c.in-Err-check_all.ensures
