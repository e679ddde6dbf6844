-- `path_text::put_point` meets its contract.
use native.Mathlib.Omega.{arith}
use Rattle.path_text.proofs.Parts.{x_fine, y_fine}
use Rattle.path_text.proofs.Lengths.{point-text, put-point-text}
use Rattle.path_text.proofs.put_point.Goals as goal

pub put_number-y-requires : goal.put_number-y-requires
put_number-y-requires c =
    let f = x_fine c.args.p c.requires.0 c.requires.1.0 in
    (f.0, (f.1, omega (arith, point-text c.args.p)))

pub put_number-requires : goal.put_number-requires
put_number-requires c =
    let f = y_fine c.args.p c.requires.0 c.requires.1.0 in
    (f.0, (f.1, omega (arith, point-text c.args.p, c.put_number-y.ensures.end)))

pub returns : goal.returns
returns c = put-point-text c.args.p c.put_number-y.ensures c.put_number.ensures
