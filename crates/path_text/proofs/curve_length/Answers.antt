-- `path_text::curve_length` meets its contract.
use native.Mathlib.Omega.{arith}
use Rattle.path_text.proofs.Parts.{curve-fine}
use Rattle.path_text.proofs.Lengths.{curve-text}
use Rattle.path_text.proofs.curve_length.Goals as goal

pub point_length-requires : goal.point_length-requires
point_length-requires c = (curve-fine c.args.c c.requires.0 c.requires.1).cp1

pub point_length-requires-2 : goal.point_length-requires-2
point_length-requires-2 c = (curve-fine c.args.c c.requires.0 c.requires.1).cp2

pub point_length-requires-3 : goal.point_length-requires-3
point_length-requires-3 c = (curve-fine c.args.c c.requires.0 c.requires.1).end

pub returns : goal.returns
returns c = (omega (arith, curve-text c.args.c, c.point_length.ensures.0, c.point_length-2.ensures.0, c.point_length-3.ensures.0), omega (arith, c.point_length.ensures.1, c.point_length-2.ensures.1, c.point_length-3.ensures.1))
