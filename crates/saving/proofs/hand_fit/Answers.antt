-- `saving::hand_fit` meets its contract.
use mathlib.Core.Path.{sym}
use native.Mathlib.Omega.{arith}
use lib.Seq.{length-take-le}
use Rattle.saving.proofs.Ways.{fit_is, refused-text, done-text, done_ready}
use Rattle.saving.proofs.hand_fit.Goals as goal

pub slice_bounds-fit_joined-end : goal.slice_bounds-fit_joined-end
slice_bounds-fit_joined-end c = sym (length-take-le _ _ (omega (arith, c.mark_floats-ms.ensures, c.copy_floats.auto.out)))

pub hand_file-requires : goal.hand_file-requires
hand_file-requires c =
    let a = c.args in
    let p = c.requires in
    let f = c.fit_joined-fitted in
    let h = fit_is a.tolerance a.marks.now _ _ _ _ _ c.copy_floats.ensures c.of_bits.ensures c.curve_floats-curves.ensures.1 c.first_marks-firsts.ensures.1 c.first_marks-worsts.ensures.1 c.param_floats-params.ensures.1 c.in-Ok.ensures in
    done_ready a.tolerance a.marks.now _ h p.0 p.1 (omega (arith, f.auto.firsts, c.first_marks-firsts.ensures.0)) (omega (arith, f.auto.worsts, c.first_marks-worsts.ensures.0)) (omega (arith, f.auto.curves, c.curve_floats-curves.ensures.0)) (omega (arith, f.auto.params, c.param_floats-params.ensures.0))

pub returns-in-Ok : goal.returns-in-Ok
returns-in-Ok c =
    let a = c.args in
    let h = fit_is a.tolerance a.marks.now _ _ _ _ _ c.copy_floats.ensures c.of_bits.ensures c.curve_floats-curves.ensures.1 c.first_marks-firsts.ensures.1 c.first_marks-worsts.ensures.1 c.param_floats-params.ensures.1 c.in-Ok.ensures in
    rw (done-text a.tolerance a.marks.now _ h) c.hand_file.ensures

pub returns-in-Err : goal.returns-in-Err
returns-in-Err c =
    let a = c.args in
    let h = fit_is a.tolerance a.marks.now _ _ _ _ _ c.copy_floats.ensures c.of_bits.ensures c.curve_floats-curves.ensures.1 c.first_marks-firsts.ensures.1 c.first_marks-worsts.ensures.1 c.param_floats-params.ensures.1 c.in-Err.ensures in
    rw (refused-text a.tolerance a.marks.now _ h) (rw c.number.ensures at c.hand_refusal.ensures)
