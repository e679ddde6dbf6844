-- `fit::fit_curve_cubic`: the gate, then the run, then zeros if it is refused.
use native.Mathlib.Omega.{arith}
use Prim.Native.Nat.{◌+◌}
use mathlib.Core.Path.{sym, ap, ◌∙◌}
use lib.ListN.{length-take}
use Rattle.float.proofs.Refusals.{handed_on}
use Rattle.marks.specs.Marks.{count}
use Rattle.fit.specs.Fit.{ending, cubic_of}
use Rattle.fit.proofs.Entries.{of_count, cubic_passed, passed_ready, direct, end_gate, ran, end_refused, end_done}
use Rattle.fit.proofs.fit_curve_cubic.Goals as goal

pub returns-in_err-gate_cubic : goal.returns-in_err-gate_cubic
unfolding cubic_of
returns-in_err-gate_cubic c =
    let a = c.args in
    ap (λ r. ending r a.curves.now a.firsts.now a.worsts.now a.params.now) (handed_on _ _ c.from_residual.ensures.1)
    ∙ end_gate (direct a.marks.now a.start a.end a.tolerance a.curves.now a.firsts.now a.worsts.now a.params.now) _ c.in_err-gate_cubic.ensures

pub slice_bounds-fit_part-end : goal.slice_bounds-fit_part-end
slice_bounds-fit_part-end c =
    let a = c.args in
    let q = (cubic_passed a.marks.now a.start a.end a.tolerance _ _ _ _ c.in_ok-gate_cubic.ensures).params in
    omega arith

pub slice_bounds-fit_part-end-2 : goal.slice_bounds-fit_part-end-2
slice_bounds-fit_part-end-2 c =
    let a = c.args in
    let q = (cubic_passed a.marks.now a.start a.end a.tolerance _ _ _ _ c.in_ok-gate_cubic.ensures).params in
    simp length-take (omega arith)

pub fit_part-out-requires : goal.fit_part-out-requires
fit_part-out-requires c =
    let a = c.args in
    of_count a.marks.now a.tolerance a.curves.now a.firsts.now a.worsts.now a.params.now (0 + count a.marks.now) (count a.marks.now) (omega arith)
    (passed_ready 512 _ a.marks.now a.tolerance a.curves.now a.firsts.now a.worsts.now a.params.now (omega arith) (cubic_passed a.marks.now a.start a.end a.tolerance _ _ _ _ c.in_ok-gate_cubic.ensures))

pub returns-in_default : goal.returns-in_default
unfolding cubic_of
returns-in_default c =
    let a = c.args in
    let K = direct a.marks.now a.start a.end a.tolerance a.curves.now a.firsts.now a.worsts.now a.params.now in
    let q = (cubic_passed a.marks.now a.start a.end a.tolerance _ _ _ _ c.in_ok-gate_cubic.ensures).params in
    let f = c.fit_part-out in
    let z = c.zero_all.ensures in
    end_refused K (ran K _ _ _ _ _ (sym c.in_ok-gate_cubic.ensures) (omega arith) f.ensures f.auto.curves f.auto.firsts f.auto.worsts f.auto.params) c.in_default.field-0 _ _ _ _ c.in_default.is z.0 z.1 z.2 z.3

pub returns : goal.returns
unfolding cubic_of
returns c =
    let a = c.args in
    let K = direct a.marks.now a.start a.end a.tolerance a.curves.now a.firsts.now a.worsts.now a.params.now in
    let q = (cubic_passed a.marks.now a.start a.end a.tolerance _ _ _ _ c.in_ok-gate_cubic.ensures).params in
    let f = c.fit_part-out in
    end_done K (ran K _ _ _ _ _ (sym c.in_ok-gate_cubic.ensures) (omega arith) f.ensures f.auto.curves f.auto.firsts f.auto.worsts f.auto.params) c.in-Ok.made c.in-Ok.is
