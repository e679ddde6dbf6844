-- `file_fit::fit_file` meets its contract.
use mathlib.Core.Path.{sym}
use native.Mathlib.Omega.{arith}
use lib.Seq.{length-take-le}
use Rattle.file_fit.proofs.Turns.{fit_left_is}
use Rattle.file_fit.proofs.fit_file.Goals as goal

pub slice_bounds-fit_joined-end : goal.slice_bounds-fit_joined-end
slice_bounds-fit_joined-end c = sym (length-take-le _ _ (omega (arith, c.copy_numbers.auto.out)))

pub returns : goal.returns
returns c =
    let a = c.args in
    fit_left_is a.file.now a.n a.curves.now a.firsts.now _ _ _ _ _ _ _ _ _ _ _ c.copy_numbers.ensures c.eight.ensures c.of_bits-tolerance.ensures c.worst_room-worsts.ensures.1 c.param_room-params.ensures.1 c.fit_joined.ensures
