-- `path_text::path_length` meets its contract.
use native.Mathlib.Omega.{arith}
use Rattle.faults.specs.Tests.{curve_at}
use Rattle.path_text.proofs.Parts.{curve-fine, curve_at_is}
use Rattle.path_text.proofs.Lengths.{path-text}
use Rattle.path_text.proofs.path_length.Goals as goal

pub point_length-requires : goal.point_length-requires
point_length-requires c =
    let w = curve_at_is 0 c.requires.1 (omega arith) in
    rw c.curve_at-first.ensures (curve-fine (curve_at c.args.form c.args.curves.now 0) w.0 w.1).start

pub returns : goal.returns
returns c =
    let f = curve_at c.args.form c.args.curves.now in
    let p = rw c.curve_at-first.ensures at c.point_length.ensures.0 in
    omega (arith, path-text c.args.ring c.args.n f, p, c.curves_length.ensures.0, c.closing_length.ensures.0)
