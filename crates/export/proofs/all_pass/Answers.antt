-- `export::all_pass` meets its contract.
use mathlib.Core.Path.{refl}
use Rattle.faults.specs.Tests.{curve_at}
use Rattle.path.specs.Range.{every}
use Rattle.export.specs.Tests.{passes}
use Rattle.export.proofs.Tests.{every_next}
use Rattle.export.proofs.all_pass.Goals as goal

pub loop-i-init : goal.loop-i-init
unfolding every
loop-i-init c = refl

pub loop-i-preserved : goal.loop-i-preserved
loop-i-preserved c =
    let a = c.args in
    let l = c.loop-i in
    rw c.is_passed-all.ensures (every_next l.i (passes a.test (curve_at a.form a.curves.now)) l.all l.invariant)
