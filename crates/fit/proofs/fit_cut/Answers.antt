-- `fit::fit_cut`: the gate, then the run, then zeros if it is refused.
use native.Mathlib.Omega.{arith}
use Prim.Native.Nat.{◌+◌}
use mathlib.Core.Path.{ap, ◌∙◌}
use lib.ListN.{length-take}
use Rattle.float.proofs.Refusals.{handed_on}
use Rattle.limits.specs.Limits.{most_marks}
use Rattle.marks.specs.Marks.{count}
use Rattle.marks.specs.Block.{block_size}
use Rattle.tangents.specs.Ways.{marks_of}
use Rattle.fit.specs.Fit.{ending, fit_of}
use Rattle.fit.proofs.Entries.{size_within, of_size, of_outline, within, by_blocks, end_gate, ran, end_refused, end_done}
use Rattle.fit.proofs.fit_cut.Goals as goal

pub returns-in_err-gate : goal.returns-in_err-gate
unfolding fit_of
returns-in_err-gate c =
    let a = c.args in
    ap (λ r. ending r a.curves.now a.firsts.now a.worsts.now a.params.now) (handed_on _ _ c.from_residual.ensures.1)
    ∙ end_gate (by_blocks a.cutting a.marks.now a.tolerance a.curves.now a.firsts.now a.worsts.now a.params.now 0) _ (of_outline most_marks _ _ a.marks.now a.tolerance _ _ _ _ _ c.outline_of-outline.ensures c.in_err-gate.ensures)

pub slice_bounds-fit_blocks-end : goal.slice_bounds-fit_blocks-end
slice_bounds-fit_blocks-end c =
    let a = c.args in
    let w = within a.cutting a.marks.now a.tolerance a.curves.now a.firsts.now a.worsts.now a.params.now c.outline_of-outline.ensures c.in_ok-gate.ensures c.again.ensures in
    w.room

pub slice_bounds-fit_blocks-end-2 : goal.slice_bounds-fit_blocks-end-2
slice_bounds-fit_blocks-end-2 c =
    let a = c.args in
    let w = within a.cutting a.marks.now a.tolerance a.curves.now a.firsts.now a.worsts.now a.params.now c.outline_of-outline.ensures c.in_ok-gate.ensures c.again.ensures in
    let r = w.room in
    simp length-take (omega arith)

pub fit_blocks-out-requires-clause-ready : goal.fit_blocks-out-requires-clause-ready
fit_blocks-out-requires-clause-ready c =
    let a = c.args in
    let w = within a.cutting a.marks.now a.tolerance a.curves.now a.firsts.now a.worsts.now a.params.now c.outline_of-outline.ensures c.in_ok-gate.ensures c.again.ensures in
    w.ready

pub fit_blocks-out-requires-clause-le_size : goal.fit_blocks-out-requires-clause-le_size
fit_blocks-out-requires-clause-le_size c =
    size_within _ c.max_points_to_fit-size.result c.max_points_to_fit-size.ensures

pub returns-in_default : goal.returns-in_default
unfolding fit_of
returns-in_default c =
    let a = c.args in
    let w = within a.cutting a.marks.now a.tolerance a.curves.now a.firsts.now a.worsts.now a.params.now c.outline_of-outline.ensures c.in_ok-gate.ensures c.again.ensures in
    let K = by_blocks a.cutting a.marks.now a.tolerance a.curves.now a.firsts.now a.worsts.now a.params.now (c.again.result + count a.marks.now) in
    let s = c.max_points_to_fit-size in
    let f = c.fit_blocks-out in
    let left = of_size a.cutting (marks_of a.cutting a.marks.now) a.tolerance s.result (block_size (count (marks_of a.cutting a.marks.now))) f.result a.curves.now f.new.curves a.firsts.now f.new.firsts a.worsts.now f.new.worsts f.new.params (s.ensures ∙ ap block_size w.all) f.ensures in
    let z = c.zero_all.ensures in
    end_refused K (ran K _ _ _ _ _ w.gate w.room left f.auto.curves f.auto.firsts f.auto.worsts f.auto.params) c.in_default.field-0 _ _ _ _ c.in_default.is z.0 z.1 z.2 z.3

pub returns : goal.returns
unfolding fit_of
returns c =
    let a = c.args in
    let w = within a.cutting a.marks.now a.tolerance a.curves.now a.firsts.now a.worsts.now a.params.now c.outline_of-outline.ensures c.in_ok-gate.ensures c.again.ensures in
    let K = by_blocks a.cutting a.marks.now a.tolerance a.curves.now a.firsts.now a.worsts.now a.params.now (c.again.result + count a.marks.now) in
    let s = c.max_points_to_fit-size in
    let f = c.fit_blocks-out in
    let left = of_size a.cutting (marks_of a.cutting a.marks.now) a.tolerance s.result (block_size (count (marks_of a.cutting a.marks.now))) f.result a.curves.now f.new.curves a.firsts.now f.new.firsts a.worsts.now f.new.worsts f.new.params (s.ensures ∙ ap block_size w.all) f.ensures in
    end_done K (ran K _ _ _ _ _ w.gate w.room left f.auto.curves f.auto.firsts f.auto.worsts f.auto.params) c.in-Ok.total c.in-Ok.is
