-- `waiting::fit_waiting`: over an open outline or a closed one.
use native.Mathlib.Omega.{arith}
use mathlib.Core.Path.{◌≡◌, sym, ◌∙◌}
use Rattle.ring.specs.declared.Outline.TheVariants.{Closed}
use Rattle.parts.specs.Headings.{outline_in}
use Rattle.waiting.proofs.Steps.{ready_outlined, ready_room, laid-open}
use Rattle.waiting.proofs.fit_waiting.Goals as goal

pub fit_round-requires : goal.fit_round-requires
fit_round-requires c =
    let closed : outline_in c.args.heading ≡ Closed = sym c.outline_in.ensures ∙ c.in-Closed.is in
    let p = c.requires in let e = closed in record { heading_value = (e, (p.size_nonzero.0, (p.size_nonzero.1.1 e, p.size_nonzero.1.0))); ready = p.ready }

pub work_off-requires : goal.work_off-requires
work_off-requires c =
    let a = c.args in
    let p = c.requires in record {
      outlined = ready_outlined a.heading a.marks.now a.marks.now 0 a.size a.tolerance a.curves.now a.firsts.now a.worsts.now a.params.now p.ready.0 p.size_nonzero.0 p.size_nonzero.1.0
          (laid-open a.heading a.marks.now a.marks.now 0 (sym c.outline_in.ensures ∙ c.in-Open.is)) (omega arith);
      room = ready_room p.ready.0 p.ready.1;
    }
