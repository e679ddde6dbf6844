-- `blocks::fit_block`: the tangents taken out first, and then the run.
use native.Mathlib.Omega.{arith}
use mathlib.Core.Path.{sym}
use Rattle.ring.proofs.Whole.{again-small}
use Rattle.tangents.specs.Ways.{outline_of, marks_of}
use Rattle.tangents.proofs.Blocks.{marks_of_is}
use Rattle.blocks.proofs.Blocks.{block_lost, block_ran, block_ready, block_as-closed, same_marks, same_ready}
use Rattle.blocks.proofs.fit_block.Goals as goal

pub returns-in_default : goal.returns-in_default
returns-in_default c = let a = c.args in block_lost a.cutting (marks_of a.cutting a.marks.now) a.n a.tolerance a.from a.to c.in_default.ensures _ _ _ _ _ _ _

pub fit_marks-requires : goal.fit_marks-requires
fit_marks-requires c =
    let a = c.args in
    let p = c.requires in
    let m = marks_of_is a.cutting a.marks.now a.n p.marks_len.0 (omega (arith, p)) in
    let s = again-small (outline_of a.cutting) in
    record { even = (m.0, (omega (arith, p, m), (p.to_value.0, p.to_value.1))); ready = same_ready _ _ a.from _ _ _ _ _ (sym (block_as-closed a.cutting a.marks.now a.n a.from a.to p.marks_len.0 (omega (arith, p)) (omega (arith, p)))) (block_ready (marks_of a.cutting a.marks.now) a.n a.from a.to a.tolerance a.curves.now a.firsts.now a.worsts.now a.params.now p.marks_len p.from_bound p.to_value) }

pub returns : goal.returns
returns c =
    let a = c.args in
    let p = c.requires in
    let w = c.in-Ok.ways in
    block_ran a.cutting (marks_of a.cutting a.marks.now) a.n a.tolerance a.from a.to c.in-Ok.ensures _ _ _ _ _ _ _ _
    (same_marks _ _ a.from w.start w.end a.tolerance _ _ _ _ _ _ _ _ (block_as-closed a.cutting a.marks.now a.n a.from a.to p.marks_len.0 (omega (arith, p)) (omega (arith, p))) c.fit_marks.ensures)
