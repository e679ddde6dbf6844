-- `waiting::fit_round`: the array's front holds the last marks and mark 0.
use native.Mathlib.Omega.{arith}
use Prim.Native.Nat.{◌+◌}
use mathlib.Core.Path.{◌≡◌, sym}
use lib.ListN.{length}
use lib.Seq.{length-take-le}
use Rattle.marks.specs.Marks.{count}
use Rattle.ring.specs.Ring.{Even}
use Rattle.waiting.proofs.Steps.{ready_outlined, ready_room, closed-marks, laid-closed}
use Rattle.waiting.proofs.fit_round.Goals as goal

pub lay_round-requires : goal.lay_round-requires
lay_round-requires c =
    let marks : Even c.args.marks.now × (1 + count c.args.marks.now ≡ length c.args.params.now) = closed-marks c.args.heading c.args.marks.now (length c.args.params.now) c.requires.heading_value.0 c.requires.ready.0.even c.requires.ready.0.two in
    (marks.0, (omega (arith, c.saturating_sub-tail.ensures, marks.1), omega (arith, c.saturating_sub-tail.ensures, marks.1, c.requires.heading_value, c.block_room-round.ensures)))

pub overflow_sub-many : goal.overflow_sub-many
overflow_sub-many c = omega (arith, c.saturating_sub-tail.ensures)

pub overflow_mul-many : goal.overflow_mul-many
overflow_mul-many c = omega (arith, c.saturating_sub-tail.ensures, c.requires.heading_value)

pub slice_bounds-round-end : goal.slice_bounds-round-end
slice_bounds-round-end c = omega (arith, c.saturating_sub-tail.ensures, c.requires.heading_value, c.lay_round.auto.out, c.block_room-round.ensures)

pub slice_bounds-course-end : goal.slice_bounds-course-end
slice_bounds-course-end c = sym (length-take-le _ _ (omega (arith, c.saturating_sub-tail.ensures, c.requires.heading_value, c.lay_round.auto.out, c.block_room-round.ensures)))

pub work_off-requires : goal.work_off-requires
work_off-requires c =
    let a = c.args in
    let p = c.requires in
    let t = c.saturating_sub-tail.ensures in record {
      outlined = ready_outlined a.heading a.marks.now _ _ a.size a.tolerance a.curves.now a.firsts.now a.worsts.now a.params.now p.ready.0 p.heading_value.1.0 p.heading_value.1.1.1
          (laid-closed a.heading a.marks.now (length a.params.now) p.heading_value.0 p.ready.0.even p.ready.0.two c.saturating_sub-tail.result _ _ (omega (arith, t)) c.lay_round.ensures) (omega (arith, t));
      room = ready_room p.ready.0 p.ready.1;
    }
