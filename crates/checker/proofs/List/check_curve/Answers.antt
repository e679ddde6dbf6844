-- `checker::List::check_curve` meets its contract.
use native.Mathlib.Omega.{arith}
use mathlib.Core.Path.{sym, ap, ◌∙◌}
use Rattle.checker.specs.Inner.{verdict}
use Rattle.checker.proofs.Turns.{halted}
use Rattle.checker.proofs.Curves.{places, tested, fault_b, under, curve_halt, curve-rest}
use Rattle.checker.proofs.List.check_curve.Goals as goal

pub last_at-last-requires : goal.last_at-last-requires
last_at-last-requires c =
    let l = c.args.self.now in
    let b = places l.outline l.marks.now c.again.ensures c.requires in
    (omega arith, (omega arith, omega arith))

pub mark_at-p-requires : goal.mark_at-p-requires
mark_at-p-requires c =
    let l = c.args.self.now in
    let b = places l.outline l.marks.now c.again.ensures c.requires in
    omega (arith, c.first_at-first.ensures)

pub mark_round-q-requires : goal.mark_round-q-requires
mark_round-q-requires c =
    let l = c.args.self.now in
    let b = places l.outline l.marks.now c.again.ensures c.requires in
    (b.even, omega (arith, c.last_at-last.ensures))

pub returns-then-not-is_run : goal.returns-then-not-is_run
returns-then-not-is_run c =
    let l = c.args.self.now in
    let b = places l.outline l.marks.now c.again.ensures c.requires in
    fault_b _ l.form _ l.tolerance _ l.curves.now _ l.worsts.now _ _ _ b _ _ c.curve_at-c.ensures c.first_at-first.ensures _ _ _ _ c.last_at-last.ensures c.mark_at-p.ensures c.mark_round-q.ensures c.is_run.ensures c.if-not-is_run.true

pub check_under-requires : goal.check_under-requires
check_under-requires c =
    let l = c.args.self.now in
    let b = places l.outline l.marks.now c.again.ensures c.requires in
    under _ l.form _ l.tolerance _ l.curves.now _ l.worsts.now _ _ _ b _ _ c.curve_at-c.ensures c.first_at-first.ensures _ c.stop_at-stop.ensures

pub returns-in_err-far : goal.returns-in_err-far
returns-in_err-far c =
    let l = c.args.self.now in
    let b = places l.outline l.marks.now c.again.ensures c.requires in
    let t = tested _ l.form _ l.tolerance _ l.curves.now _ l.worsts.now _ _ _ b _ _ c.curve_at-c.ensures c.first_at-first.ensures _ _ _ _ c.last_at-last.ensures c.mark_at-p.ensures c.mark_round-q.ensures c.is_run.ensures in
    ap verdict (halted _ _ c.from_residual.ensures.1) ∙ curve_halt _ l.form _ l.tolerance _ l.curves.now _ l.worsts.now _ _ _ b _ _ c.curve_at-c.ensures c.first_at-first.ensures _ c.stop_at-stop.ensures (sym t ∙ c.if-not-is_run.false) _ c.in_err-far.ensures

pub returns : goal.returns
returns c =
    let l = c.args.self.now in
    let b = places l.outline l.marks.now c.again.ensures c.requires in
    let t = tested _ l.form _ l.tolerance _ l.curves.now _ l.worsts.now _ _ _ b _ _ c.curve_at-c.ensures c.first_at-first.ensures _ _ _ _ c.last_at-last.ensures c.mark_at-p.ensures c.mark_round-q.ensures c.is_run.ensures in
    curve-rest _ l.form _ l.tolerance _ l.curves.now _ l.worsts.now _ _ _ b _ _ c.curve_at-c.ensures c.first_at-first.ensures _ c.stop_at-stop.ensures (sym t ∙ c.if-not-is_run.false) _ c.in_ok-far.ensures c.check_kept.ensures
