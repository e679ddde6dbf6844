-- `verdict::put_judgement` meets its contract.
use mathlib.Core.Path.{sym}
use native.Mathlib.Omega.{arith}
use lib.ListN.{length-take}
use lib.Seq.{length-take-le}
use Rattle.desk.proofs.Opened.{Opened, opened, marks_within, bounds}
use Rattle.verdict.proofs.Ways.{refused-line, curves_within, plain-line, verdict-line}
use Rattle.verdict.proofs.put_judgement.Goals as goal
use Rattle.verdict.proofs.put_judgement.Goals.{In-Ok}

-- what the file that was opened tells
told_of : (c : In-Ok) → Opened c.args.file.now c.in-Ok.found.form c.in-Ok.found.tolerance c.in-Ok.found.marks c.in-Ok.found.curves c.open_file-read.new.marks c.open_file-read.new.firsts c.open_file-read.new.worsts c.open_file-read.new.curves c.open_file-read.new.params
told_of c = opened c.args.file.now c.mark_patterns-marks.result c.first_marks-firsts.result c.first_marks-worsts.result c.curve_patterns-curves.result c.param_patterns-params.result c.in-Ok.found c.in-Ok.ensures

pub returns-in-Err : goal.returns-in-Err
returns-in-Err c = (omega arith, rw (refused-line c.args.file.now c.mark_patterns-marks.result c.first_marks-firsts.result c.first_marks-worsts.result c.curve_patterns-curves.result c.param_patterns-params.result _ c.in-Err.ensures) (rw c.number.ensures at c.put_refusal.ensures.1))

pub returns-then-k-eq0 : goal.returns-then-k-eq0
returns-then-k-eq0 c =
    let told = told_of (goal.at.returns-then-k-eq0 c).In-Ok in
    (omega arith, rw (plain-line told (omega arith)) c.put_one.ensures.1)

pub overflow_mul-m : goal.overflow_mul-m
overflow_mul-m c =
    let told = told_of (goal.at.overflow_mul-m c).In-Ok in
    omega (arith, told.few)

pub overflow_mul-c : goal.overflow_mul-c
overflow_mul-c c =
    let told = told_of (goal.at.overflow_mul-c c).In-Ok in
    omega (arith, curves_within told (omega arith) c.width.ensures)

pub slice_bounds-marks-end : goal.slice_bounds-marks-end
slice_bounds-marks-end c =
    let told = told_of (goal.at.slice_bounds-marks-end c).In-Ok in
    marks_within told

pub slice_bounds-check_file-end : goal.slice_bounds-check_file-end
slice_bounds-check_file-end c =
    let told = told_of (goal.at.slice_bounds-check_file-end c).In-Ok in
    sym (length-take-le _ _ (marks_within told))

pub slice_bounds-firsts-end : goal.slice_bounds-firsts-end
slice_bounds-firsts-end c =
    let told = told_of (goal.at.slice_bounds-firsts-end c).In-Ok in
    (bounds told (omega arith)).firsts

pub slice_bounds-check_file-end-2 : goal.slice_bounds-check_file-end-2
slice_bounds-check_file-end-2 c =
    let told = told_of (goal.at.slice_bounds-check_file-end-2 c).In-Ok in
    sym (length-take-le _ _ (bounds told (omega arith)).firsts)

pub slice_bounds-worsts-end : goal.slice_bounds-worsts-end
slice_bounds-worsts-end c =
    let told = told_of (goal.at.slice_bounds-worsts-end c).In-Ok in
    rw c.worsts_for-w.ensures (bounds told (omega arith)).worsts

pub slice_bounds-check_file-end-3 : goal.slice_bounds-check_file-end-3
slice_bounds-check_file-end-3 c =
    let told = told_of (goal.at.slice_bounds-check_file-end-3 c).In-Ok in
    sym (length-take-le _ _ (rw c.worsts_for-w.ensures (bounds told (omega arith)).worsts))

pub slice_bounds-curves-end : goal.slice_bounds-curves-end
slice_bounds-curves-end c =
    let told = told_of (goal.at.slice_bounds-curves-end c).In-Ok in
    rw c.width.ensures (bounds told (omega arith)).curves

pub slice_bounds-check_file-end-4 : goal.slice_bounds-check_file-end-4
slice_bounds-check_file-end-4 c =
    let told = told_of (goal.at.slice_bounds-check_file-end-4 c).In-Ok in
    sym (length-take-le _ _ (rw c.width.ensures (bounds told (omega arith)).curves))

pub slice_bounds-params-end : goal.slice_bounds-params-end
slice_bounds-params-end c =
    let told = told_of (goal.at.slice_bounds-params-end c).In-Ok in
    (bounds told (omega arith)).params

pub slice_bounds-check_file-end-5 : goal.slice_bounds-check_file-end-5
slice_bounds-check_file-end-5 c =
    let told = told_of (goal.at.slice_bounds-check_file-end-5 c).In-Ok in
    sym (length-take-le _ _ (bounds told (omega arith)).params)

pub check_file-checked-requires : goal.check_file-checked-requires
check_file-checked-requires c = (simp length-take (omega arith), (simp length-take (omega arith), simp length-take (omega arith)))

pub put_verdict-requires : goal.put_verdict-requires
put_verdict-requires c = omega (arith, c.requires)

pub returns : goal.returns
returns c =
    let told = told_of (goal.at.returns c).In-Ok in
    let w = c.worsts_for-w.ensures in
    let n = c.width.ensures in
    (omega arith, rw (verdict-line told (omega arith) (rw (w, n) at c.check_file-checked.ensures)) c.put_verdict.ensures.1)
