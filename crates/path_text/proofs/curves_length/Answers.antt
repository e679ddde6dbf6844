-- `path_text::curves_length` meets its contract.
use native.Mathlib.Omega.{arith}
use mathlib.Core.Path.{refl}
use Rattle.faults.specs.Tests.{curve_at}
use Rattle.path.specs.Text.{curves_text}
use Rattle.path_text.proofs.Parts.{curve_at_is}
use Rattle.path_text.proofs.Lengths.{curves-text}
use Rattle.path_text.proofs.curves_length.Goals as goal

pub loop-i-init : goal.loop-i-init
unfolding curves_text
loop-i-init c = (refl, omega arith)

pub curve_length-total-requires : goal.curve_length-total-requires
curve_length-total-requires c = rw c.curve_at.ensures (curve_at_is c.loop-i.i c.requires (omega arith))

pub loop-i-preserved : goal.loop-i-preserved
loop-i-preserved c =
    let f = curve_at c.args.form c.args.curves.now in
    let l = rw c.curve_at.ensures at c.curve_length-total.ensures.0 in
    (omega (arith, curves-text c.loop-i.i f, l, c.loop-i.invariant.0), omega (arith, c.curve_length-total.ensures.1, c.loop-i.invariant.1))
