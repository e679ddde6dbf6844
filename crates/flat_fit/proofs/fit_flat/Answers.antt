-- `flat_fit::fit_flat`: the tests, then the run, then zeros where parts were open, and everywhere if it is refused.
use native.Mathlib.Omega.{arith}
use Prim.Native.Nat.{ℕ, ◌+◌}
use mathlib.Core.Path.{ap, ◌∙◌}
use lib.ListN.{length, length-take}
use Rattle.float.proofs.Refusals.{handed_on}
use Rattle.marks.specs.Marks.{count}
use Rattle.ring.specs.Ring.{again}
use Rattle.ring.proofs.Whole.{again-small}
use Rattle.fit.proofs.Entries.{of_count, passed_ready, end_gate, ran, end_refused, end_done}
use Rattle.parts.specs.Headings.{outline_in, marks_in}
use Rattle.flat_fit.specs.Flat.{flat_ending, open_gate, flat_of}
use Rattle.flat_fit.proofs.Flat.{top_in, top_small, size_some, size-closed, size-meets, sized, shut, through, flat, within}
use Rattle.flat_fit.proofs.fit_flat.Goals as goal

pub returns-in_err-open_gate : goal.returns-in_err-open_gate
unfolding flat_of
returns-in_err-open_gate c =
    let a = c.args in
    let K = flat a.heading a.marks.now a.tolerance a.curves.now a.firsts.now a.worsts.now a.params.now a.open.now 0 in
    let t = c.in_err-open_gate.ensures ∙ ap (λ (g : ℕ). open_gate g (length a.open.now) (count a.marks.now)) c.gate_in-first.ensures in
    ap (λ r. flat_ending r a.curves.now a.firsts.now a.worsts.now a.params.now a.open.now) (handed_on _ _ c.from_residual.ensures.1)
    ∙ shut K.g K.R K.C K.F K.W K.P a.open.now (end_gate K _ t) _ t

pub overflow_add-n : goal.overflow_add-n
overflow_add-n c =
    let a = c.args in
    let more = c.again.ensures ∙ ap again c.outline_in.ensures in
    omega (arith, more, again-small (outline_in a.heading))

pub size_in-size-requires : goal.size_in-size-requires
size_in-size-requires c =
    let a = c.args in
    let w = within a.heading a.marks.now a.tolerance a.curves.now a.firsts.now a.worsts.now a.params.now a.open.now c.in_ok-open_gate.ensures c.gate_in-first.ensures c.outline_in.ensures c.again.ensures in
    w.two

pub slice_bounds-fit_waiting-end : goal.slice_bounds-fit_waiting-end
slice_bounds-fit_waiting-end c =
    let a = c.args in
    let w = within a.heading a.marks.now a.tolerance a.curves.now a.firsts.now a.worsts.now a.params.now a.open.now c.in_ok-open_gate.ensures c.gate_in-first.ensures c.outline_in.ensures c.again.ensures in
    w.room

pub slice_bounds-fit_waiting-end-2 : goal.slice_bounds-fit_waiting-end-2
slice_bounds-fit_waiting-end-2 c =
    let a = c.args in
    let w = within a.heading a.marks.now a.tolerance a.curves.now a.firsts.now a.worsts.now a.params.now a.open.now c.in_ok-open_gate.ensures c.gate_in-first.ensures c.outline_in.ensures c.again.ensures in
    let r = w.room in
    simp length-take (omega arith)

pub fit_waiting-out-requires : goal.fit_waiting-out-requires
fit_waiting-out-requires c =
    let a = c.args in
    let w = within a.heading a.marks.now a.tolerance a.curves.now a.firsts.now a.worsts.now a.params.now a.open.now c.in_ok-open_gate.ensures c.gate_in-first.ensures c.outline_in.ensures c.again.ensures in
    let r = w.room in
    let s = c.size_in-size in
    record {
      size_nonzero = (size_some a.heading _ s.result w.two s.ensures, (size-meets a.heading _ _ s.result c.requires s.ensures (simp length-take (omega arith)), size-closed a.heading _ s.result s.ensures));
      ready = (of_count (marks_in a.heading a.marks.now) a.tolerance a.curves.now a.firsts.now a.worsts.now a.params.now (again (outline_in a.heading) + count a.marks.now) (c.again.result + count a.marks.now) w.many (passed_ready (top_in a.heading) (outline_in a.heading) a.marks.now a.tolerance a.curves.now a.firsts.now a.worsts.now a.params.now (top_small a.heading) w.passed), simp length-take (omega (arith, w, again-small (outline_in a.heading))));
    }

pub returns-in_default : goal.returns-in_default
unfolding flat_of
returns-in_default c =
    let a = c.args in
    let w = within a.heading a.marks.now a.tolerance a.curves.now a.firsts.now a.worsts.now a.params.now a.open.now c.in_ok-open_gate.ensures c.gate_in-first.ensures c.outline_in.ensures c.again.ensures in
    let K = flat a.heading a.marks.now a.tolerance a.curves.now a.firsts.now a.worsts.now a.params.now a.open.now (c.again.result + count a.marks.now) in
    let f = c.fit_waiting-out in
    let left = sized a.heading (marks_in a.heading a.marks.now) a.tolerance (c.again.result + count a.marks.now) c.size_in-size.result f.result a.curves.now _ a.firsts.now _ a.worsts.now _ _ c.size_in-size.ensures w.all f.ensures in
    let D = ran K _ _ _ _ _ w.gate w.room left f.auto.curves f.auto.firsts f.auto.worsts f.auto.params in
    let z = c.zero_all.ensures in
    through K.g K.R K.C K.F K.W K.P a.open.now (end_refused K D c.in_default.field-0 _ _ _ _ c.in_default.is z.0 z.1 z.2 z.3) w.gate f.new.open _ c.zero_numbers.ensures f.auto.open

pub returns : goal.returns
unfolding flat_of
returns c =
    let a = c.args in
    let w = within a.heading a.marks.now a.tolerance a.curves.now a.firsts.now a.worsts.now a.params.now a.open.now c.in_ok-open_gate.ensures c.gate_in-first.ensures c.outline_in.ensures c.again.ensures in
    let K = flat a.heading a.marks.now a.tolerance a.curves.now a.firsts.now a.worsts.now a.params.now a.open.now (c.again.result + count a.marks.now) in
    let f = c.fit_waiting-out in
    let left = sized a.heading (marks_in a.heading a.marks.now) a.tolerance (c.again.result + count a.marks.now) c.size_in-size.result f.result a.curves.now _ a.firsts.now _ a.worsts.now _ _ c.size_in-size.ensures w.all f.ensures in
    let D = ran K _ _ _ _ _ w.gate w.room left f.auto.curves f.auto.firsts f.auto.worsts f.auto.params in
    through K.g K.R K.C K.F K.W K.P a.open.now (end_done K D c.in-Ok.total c.in-Ok.is) w.gate f.new.open _ c.zero_numbers.ensures f.auto.open
