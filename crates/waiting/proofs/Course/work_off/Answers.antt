-- `waiting::Course::work_off`: at the loop's head the whole is what is written, the part that is next, and what waits (`Sofar`).
use native.Mathlib.Omega.{arith}
use Prim.Native.Nat.{◌-◌}
use mathlib.Core.Path.{refl, ap, ◌∙◌}
use Rattle.std.specs.Prelude.{Err}
use Rattle.waiting.proofs.Loop.{asked, so_first, head, numbers, within, ran, so_refused, cut_inside, so_cut, good_among, so_done, so_next}
use Rattle.waiting.proofs.Course.work_off.Goals as goal

pub loop-s-init : goal.loop-s-init
loop-s-init c = so_first _ (asked _ c.requires.outlined c.requires.room c.wait_blocks-first.auto.open) _ _ _ c.wait_blocks-first.ensures refl

pub overflow_add-past : goal.overflow_add-past
overflow_add-past c =
    let D = head _ c.requires.outlined c.requires.room c.wait_blocks-first.auto.open c.loop-s.invariant in
    let z = numbers D in
    omega arith

pub slice_bounds-try_between-end : goal.slice_bounds-try_between-end
slice_bounds-try_between-end c =
    let D = head _ c.requires.outlined c.requires.room c.wait_blocks-first.auto.open c.loop-s.invariant in
    let z = numbers D in
    omega arith

pub try_between-requires-clause-within : goal.try_between-requires-clause-within
try_between-requires-clause-within c =
    let D = head _ c.requires.outlined c.requires.room c.wait_blocks-first.auto.open c.loop-s.invariant in
    within D

pub put_curve-requires-clause-record_numbers_in_bounds : goal.put_curve-requires-clause-record_numbers_in_bounds
put_curve-requires-clause-record_numbers_in_bounds c =
    let D = head _ c.requires.outlined c.requires.room c.wait_blocks-first.auto.open c.loop-s.invariant in
    let z = numbers D in
    (omega arith, (omega arith, omega arith))

pub put_curve-requires-clause-at_bound : goal.put_curve-requires-clause-at_bound
put_curve-requires-clause-at_bound c =
    let D = head _ c.requires.outlined c.requires.room c.wait_blocks-first.auto.open c.loop-s.invariant in
    let f = c.try_between in
    let R = ran D _ _ f.ensures f.auto.params in
    let z = numbers D in
    omega (arith, good_among D R c.in-Ok.s c.in-Ok.is)

pub returns-then-depth-eq0 : goal.returns-then-depth-eq0
returns-then-depth-eq0 c =
    let D = head _ c.requires.outlined c.requires.room c.wait_blocks-first.auto.open c.loop-s.invariant in
    let f = c.try_between in
    let R = ran D _ _ f.ensures f.auto.params in
    so_done D R c.in-Ok.s c.in-Ok.is _ _ _ c.put_curve.ensures c.if-depth-eq0.true

pub offset_bounds-open-depth : goal.offset_bounds-open-depth
offset_bounds-open-depth c =
    let D = head _ c.requires.outlined c.requires.room c.wait_blocks-first.auto.open c.loop-s.invariant in
    let z = numbers D in
    omega arith

pub bounds-open-depth : goal.bounds-open-depth
bounds-open-depth c =
    let D = head _ c.requires.outlined c.requires.room c.wait_blocks-first.auto.open c.loop-s.invariant in
    let z = numbers D in
    omega arith

pub loop-s-smaller-in-Ok : goal.loop-s-smaller-in-Ok
loop-s-smaller-in-Ok c =
    let D = head _ c.requires.outlined c.requires.room c.wait_blocks-first.auto.open c.loop-s.invariant in
    let z = numbers D in
    omega arith

pub loop-s-preserved-in-Ok : goal.loop-s-preserved-in-Ok
loop-s-preserved-in-Ok c =
    let D = head _ c.requires.outlined c.requires.room c.wait_blocks-first.auto.open c.loop-s.invariant in
    let f = c.try_between in
    let R = ran D _ _ f.ensures f.auto.params in
    so_next D R c.in-Ok.s c.in-Ok.is _ _ _ c.put_curve.ensures (c.loop-s.depth - 1) (omega (arith, c.if-depth-eq0)) c.put_curve.auto.curves c.put_curve.auto.firsts c.put_curve.auto.worsts

pub overflow_add-cut : goal.overflow_add-cut
overflow_add-cut c =
    let D = head _ c.requires.outlined c.requires.room c.wait_blocks-first.auto.open c.loop-s.invariant in
    let f = c.try_between in
    let R = ran D _ _ f.ensures f.auto.params in
    let z = numbers D in
    omega (arith, cut_inside D R c.in-Err-Cut.at (c.in-Err-Cut.is ∙ ap Err c.in-Err-Cut.field-0-is))

pub offset_bounds-open-depth-in-Err-Cut : goal.offset_bounds-open-depth-in-Err-Cut
offset_bounds-open-depth-in-Err-Cut c =
    let D = head _ c.requires.outlined c.requires.room c.wait_blocks-first.auto.open c.loop-s.invariant in
    let z = numbers D in
    omega arith

pub bounds-open-depth-in-Err-Cut : goal.bounds-open-depth-in-Err-Cut
bounds-open-depth-in-Err-Cut c =
    let D = head _ c.requires.outlined c.requires.room c.wait_blocks-first.auto.open c.loop-s.invariant in
    let z = numbers D in
    omega arith

pub overflow_add-depth : goal.overflow_add-depth
overflow_add-depth c =
    let D = head _ c.requires.outlined c.requires.room c.wait_blocks-first.auto.open c.loop-s.invariant in
    let z = numbers D in
    omega arith

pub loop-s-smaller : goal.loop-s-smaller
loop-s-smaller c =
    let D = head _ c.requires.outlined c.requires.room c.wait_blocks-first.auto.open c.loop-s.invariant in
    let z = numbers D in
    omega arith

pub loop-s-preserved : goal.loop-s-preserved
loop-s-preserved c =
    let D = head _ c.requires.outlined c.requires.room c.wait_blocks-first.auto.open c.loop-s.invariant in
    let f = c.try_between in
    let R = ran D _ _ f.ensures f.auto.params in
    so_cut D R c.in-Err-Cut.at (c.in-Err-Cut.is ∙ ap Err c.in-Err-Cut.field-0-is)

pub returns-in-Err-Refused : goal.returns-in-Err-Refused
returns-in-Err-Refused c =
    let D = head _ c.requires.outlined c.requires.room c.wait_blocks-first.auto.open c.loop-s.invariant in
    let f = c.try_between in
    let R = ran D _ _ f.ensures f.auto.params in
    so_refused D R c.in-Err-Refused.q (c.in-Err-Refused.is ∙ ap Err c.in-Err-Refused.field-0-is) _ _ _ _
