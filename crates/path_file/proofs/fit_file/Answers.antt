-- `path_file::fit_file` meets its contract.
use Rattle.path_file.proofs.Parts.{fit_left_is}
use Rattle.path_file.proofs.fit_file.Goals as goal

pub returns : goal.returns
returns c =
    let a = c.args in
    fit_left_is a.ring a.file.now a.n _ _ _ _ _ _ _ _ _ _ _ _ _ c.copy_numbers.ensures c.eight.ensures c.of_bits-tolerance.ensures c.requires.1.1 c.first_room-firsts.ensures.1 c.first_room-worsts.ensures.1 c.param_room-params.ensures.1 c.fit_marks.ensures
