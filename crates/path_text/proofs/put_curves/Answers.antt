-- `path_text::put_curves` meets its contract.
use native.Mathlib.Omega.{arith}
use Rattle.text.proofs.Stores.{put-length}
use Rattle.faults.specs.Tests.{curve_at}
use Rattle.path_text.proofs.Parts.{curve_at_is}
use Rattle.path_text.proofs.Lengths.{curves_grow, put-curves_none, put-curves_next}
use Rattle.path_text.proofs.put_curves.Goals as goal

pub loop-i-init : goal.loop-i-init
loop-i-init c = put-curves_none (curve_at c.args.form c.args.curves.now) _ _

pub put_curve-end-requires : goal.put_curve-end-requires
put_curve-end-requires c =
    let f = curve_at c.args.form c.args.curves.now in
    let w = curve_at_is c.loop-i.i c.requires.0 (omega arith) in
    rw c.curve_at.ensures (w.0, (w.1, omega (arith, curves_grow c.args.n c.loop-i.i f (omega arith), c.loop-i.invariant.end, put-length c.loop-i.invariant)))

pub loop-i-preserved : goal.loop-i-preserved
loop-i-preserved c =
    let f = curve_at c.args.form c.args.curves.now in
    put-curves_next c.loop-i.i f c.loop-i.invariant (rw c.curve_at.ensures at c.put_curve-end.ensures)
