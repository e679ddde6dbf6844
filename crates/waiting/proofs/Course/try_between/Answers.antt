-- `waiting::Course::try_between`: the tangents by the two end marks, and then the part.
use native.Mathlib.Omega.{arith}
use lib.ListN.{length}
use Rattle.part.proofs.Trials.{refused_told}
use Rattle.part.specs.Part.{part_of}
use Rattle.ring.proofs.Whole.{again-small}
use Rattle.parts.specs.Headings.{outline_in, marks_in}
use Rattle.waiting.specs.Waiting.{part_at}
use Rattle.waiting.proofs.Steps.{same_part, given-even, reached, part_read, no_start, no_end, both_ways}
use Rattle.waiting.proofs.Course.try_between.Goals as goal

pub returns-in_err-start : goal.returns-in_err-start
returns-in_err-start c =
    let a = c.args in
    let l = a.self.now in
    no_start _ _ (λ s e. part_of (part_at (marks_in l.heading l.marks.now) a.from a.to) s e l.tolerance) _ _ c.in_err-start.ensures (refused_told _ _ _ c.from_residual.ensures.1)

pub returns-in_err-end : goal.returns-in_err-end
returns-in_err-end c =
    let a = c.args in
    let l = a.self.now in
    no_end _ _ (λ s e. part_of (part_at (marks_in l.heading l.marks.now) a.from a.to) s e l.tolerance) _ _ c.in_ok-start.ensures c.in_err-end.ensures (refused_told _ _ _ c.from_residual-in_err-end.ensures.1)

pub try_marks-requires : goal.try_marks-requires
try_marks-requires c =
    let a = c.args in
    let l = a.self.now in
    let p = c.requires in
    let e = given-even l.heading l.marks.now l.round.now l.tail a.n l.size l.tolerance p.outlined in
    record { even = (e.0, (p.within.0, omega (arith, e.1, p.within, again-small (outline_in l.heading)))); to_value = p.within.1.1.1; tail_le_from = reached l.heading l.marks.now l.round.now l.tail a.n l.size l.tolerance p.outlined a.from a.to (length a.params.now) p.within }

pub returns : goal.returns
returns c =
    let a = c.args in
    let l = a.self.now in
    let p = c.requires in
    both_ways _ _ (λ s e. part_of (part_at (marks_in l.heading l.marks.now) a.from a.to) s e l.tolerance) _ _ c.in_ok-start.ensures c.in_ok-end.ensures
    (same_part _ _ c.in_ok-start.start c.in_ok-end.end l.tolerance _ _ (part_read l.heading l.marks.now l.round.now l.tail a.n l.size l.tolerance p.outlined a.from a.to (length a.params.now) p.within) c.try_marks.ensures)
