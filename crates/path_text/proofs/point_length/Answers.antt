-- `path_text::point_length` meets its contract.
use native.Mathlib.Omega.{arith}
use Rattle.path_text.proofs.Parts.{x_fine, y_fine}
use Rattle.path_text.proofs.Lengths.{point-text}
use Rattle.path_text.proofs.point_length.Goals as goal

pub number_length-requires : goal.number_length-requires
number_length-requires c = x_fine c.args.p c.requires.0 c.requires.1

pub number_length-requires-2 : goal.number_length-requires-2
number_length-requires-2 c = y_fine c.args.p c.requires.0 c.requires.1

pub returns : goal.returns
returns c = (omega (arith, point-text c.args.p, c.number_length.ensures.0, c.number_length-2.ensures.0), omega (arith, c.number_length.ensures.1, c.number_length-2.ensures.1))
