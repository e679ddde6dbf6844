-- `blocks::fit_blocks`: at the loop's head the whole is what is written and the rest (`Sofar`).
use native.Mathlib.Omega.{arith}
use Rattle.tangents.specs.Ways.{marks_of}
use Rattle.tangents.proofs.Blocks.{over-small}
use Rattle.blocks.proofs.Sofar.{asked, so_none, head, ran, block_asks, so_stops, so_more, last_one, last_asks, last_stops, last_done}
use Rattle.blocks.proofs.fit_blocks.Goals as goal

pub overflow_add-whole : goal.overflow_add-whole
overflow_add-whole c =
    let s = over-small c.args.cutting in
    omega (arith, c.shared.ensures, c.requires.le_size)

pub loop-from-init : goal.loop-from-init
loop-from-init c =
    let a = c.args in
    so_none _ (asked a.cutting (marks_of a.cutting a.marks.now) a.size a.tolerance a.curves.now a.firsts.now a.worsts.now a.params.now c.shared.result (c.requires.ready, c.requires.le_size) c.shared.ensures)

pub fit_block-out-requires-clause-to_value : goal.fit_block-out-requires-clause-to_value
fit_block-out-requires-clause-to_value c =
    let D = head (c.requires.ready, c.requires.le_size) c.shared.ensures c.loop-from.invariant in
    (block_asks D c.loop-from-test.true).1.1

pub returns-in_default : goal.returns-in_default
returns-in_default c =
    let D = head (c.requires.ready, c.requires.le_size) c.shared.ensures c.loop-from.invariant in
    let f = c.fit_block-out in
    so_stops D c.loop-from-test.true (ran D _ _ _ _ _ f.ensures f.auto.curves f.auto.firsts f.auto.worsts f.auto.params) c.in_default.field-0 c.in_default.is _ _ _ _

pub loop-from-preserved : goal.loop-from-preserved
loop-from-preserved c =
    let D = head (c.requires.ready, c.requires.le_size) c.shared.ensures c.loop-from.invariant in
    let f = c.fit_block-out in
    so_more D c.loop-from-test.true (ran D _ _ _ _ _ f.ensures f.auto.curves f.auto.firsts f.auto.worsts f.auto.params) c.in-Ok.k c.in-Ok.is

pub returns-then-n-from-lt2 : goal.returns-then-n-from-lt2
returns-then-n-from-lt2 c =
    let D = head (c.requires.ready, c.requires.le_size) c.shared.ensures c.loop-from.invariant in
    last_one D c.loop-from-test.false c.if-n-from-lt2.true

pub fit_block-out-requires-2-clause-to_value : goal.fit_block-out-requires-2-clause-to_value
fit_block-out-requires-2-clause-to_value c =
    let D = head (c.requires.ready, c.requires.le_size) c.shared.ensures c.loop-from.invariant in
    (last_asks D c.loop-from-test.false c.if-n-from-lt2.false).1.1

pub returns-in_default-out : goal.returns-in_default-out
returns-in_default-out c =
    let D = head (c.requires.ready, c.requires.le_size) c.shared.ensures c.loop-from.invariant in
    let f = c.fit_block-out-2 in
    last_stops D c.loop-from-test.false c.if-n-from-lt2.false (ran D _ _ _ _ _ f.ensures f.auto.curves f.auto.firsts f.auto.worsts f.auto.params) c.in_default-out.field-0 c.in_default-out.is _ _ _ _

pub returns : goal.returns
returns c =
    let D = head (c.requires.ready, c.requires.le_size) c.shared.ensures c.loop-from.invariant in
    let f = c.fit_block-out-2 in
    last_done D c.loop-from-test.false c.if-n-from-lt2.false (ran D _ _ _ _ _ f.ensures f.auto.curves f.auto.firsts f.auto.worsts f.auto.params) c.in-Ok-out.k c.in-Ok-out.is
