-- `tangents::ways_of`: each tangent taken out first.
use mathlib.Core.Path.{◌∙◌}
use Rattle.float.proofs.Refusals.{handed_on}
use Rattle.plane.specs.declared.Point.{Point}
use Rattle.tangents.specs.declared.Ways.{Ways}
use Rattle.tangents.specs.Ways.{marks_of, start_of, end_of, ways_of}
use Rattle.tangents.proofs.Cuts.{no_first, no_second, both}
use Rattle.tangents.proofs.ways_of.Goals as goal

abbrev made : Point → Point → Ways
made s e = record { end = e; start = s }

pub returns-in_err-start : goal.returns-in_err-start
unfolding ways_of
returns-in_err-start c =
    let a = c.args in
    handed_on _ _ c.from_residual.ensures.1
    ∙ no_first (start_of a.cutting (marks_of a.cutting a.marks.now) a.n a.from) (λ s. end_of a.cutting (marks_of a.cutting a.marks.now) a.n a.to) made _ c.in_err-start.ensures

pub returns-in_err-end : goal.returns-in_err-end
unfolding ways_of
returns-in_err-end c =
    let a = c.args in
    handed_on _ _ c.from_residual-in_err-end.ensures.1
    ∙ no_second (start_of a.cutting (marks_of a.cutting a.marks.now) a.n a.from) (λ s. end_of a.cutting (marks_of a.cutting a.marks.now) a.n a.to) made _ c.in_ok-start.ensures _ c.in_err-end.ensures

pub returns : goal.returns
unfolding ways_of
returns c =
    let a = c.args in
    both (start_of a.cutting (marks_of a.cutting a.marks.now) a.n a.from) (λ s. end_of a.cutting (marks_of a.cutting a.marks.now) a.n a.to) made _ c.in_ok-start.ensures _ c.in_ok-end.ensures
