-- `saving::save_fit` meets its contract.
use mathlib.Core.Path.{sym}
use native.Mathlib.Omega.{arith}
use lib.Seq.{length-take-le}
use Rattle.desk.proofs.Opened.{Opened, opened, marks_within}
use Rattle.saving.proofs.Ways.{unread_text, read-text, marks-fit}
use Rattle.saving.proofs.save_fit.Goals as goal
use Rattle.saving.proofs.save_fit.Goals.{In-Ok}

pub open_file-read-requires : goal.open_file-read-requires
open_file-read-requires c = record { marks = sym c.mark_patterns-marks.ensures; firsts = sym c.first_marks-firsts.ensures.0; worsts = sym c.first_marks-worsts.ensures.0; curves = sym c.curve_patterns-curves.ensures; params = sym c.param_patterns-params.ensures }

-- what the file that was opened tells
told_of : (c : In-Ok) → Opened c.args.file.now c.in-Ok.found.form c.in-Ok.found.tolerance c.in-Ok.found.marks c.in-Ok.found.curves c.open_file-read.new.marks c.open_file-read.new.firsts c.open_file-read.new.worsts c.open_file-read.new.curves c.open_file-read.new.params
told_of c = opened c.args.file.now c.mark_patterns-marks.result c.first_marks-firsts.result c.first_marks-worsts.result c.curve_patterns-curves.result c.param_patterns-params.result c.in-Ok.found c.in-Ok.ensures

pub returns-in-Err : goal.returns-in-Err
returns-in-Err c = rw (unread_text c.args.file.now c.mark_patterns-marks.result c.first_marks-firsts.result c.first_marks-worsts.result c.curve_patterns-curves.result c.param_patterns-params.result _ c.in-Err.ensures) (rw c.number.ensures at c.hand_refusal.ensures)

pub overflow_mul-m : goal.overflow_mul-m
overflow_mul-m c =
    let told = told_of (goal.at.overflow_mul-m c).In-Ok in
    omega (arith, told.few)

pub slice_bounds-marks-end : goal.slice_bounds-marks-end
slice_bounds-marks-end c =
    let told = told_of (goal.at.slice_bounds-marks-end c).In-Ok in
    marks_within told

pub slice_bounds-hand_fit-end : goal.slice_bounds-hand_fit-end
slice_bounds-hand_fit-end c =
    let told = told_of (goal.at.slice_bounds-hand_fit-end c).In-Ok in
    sym (length-take-le _ _ (marks_within told))

pub hand_fit-requires : goal.hand_fit-requires
hand_fit-requires c =
    let told = told_of (goal.at.hand_fit-requires c).In-Ok in
    marks-fit told

pub returns-in-Ok : goal.returns-in-Ok
returns-in-Ok c =
    let told = told_of (goal.at.returns-in-Ok c).In-Ok in
    rw (read-text told) c.hand_fit.ensures
