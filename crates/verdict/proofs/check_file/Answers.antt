-- `verdict::check_file` meets its contract.
use mathlib.Core.Path.{sym}
use native.Mathlib.Omega.{arith}
use lib.Seq.{length-take-le}
use Rattle.verdict.proofs.Ways.{checked-as}
use Rattle.verdict.proofs.check_file.Goals as goal

pub slice_bounds-check-end : goal.slice_bounds-check-end
slice_bounds-check-end c = sym (length-take-le _ _ (omega arith))

pub slice_bounds-check-end-2 : goal.slice_bounds-check-end-2
slice_bounds-check-end-2 c = sym (length-take-le _ _ (omega arith))

pub slice_bounds-check-end-3 : goal.slice_bounds-check-end-3
slice_bounds-check-end-3 c = sym (length-take-le _ _ (omega arith))

pub returns : goal.returns
returns c =
    let a = c.args in
    checked-as a.form a.marks.now a.curves.now a.params.now a.firsts.now a.worsts.now a.tolerance a.k _ _ _ c.copy_floats.ensures c.copy_floats-2.ensures c.copy_floats-3.ensures c.of_bits.ensures c.check.ensures
