-- What the loops of `export::all_pass` keep.
use mathlib.Core.Path.{◌≡◌}
use Rattle.faults.specs.Tests.{curve_at}
use Rattle.path.specs.Range.{every}
use Rattle.export.specs.Tests.{passes}
use Rattle.export.proofs.all_pass.Given as goal

abbrev pub invariant-loop-i : goal.invariant-loop-i
invariant-loop-i l = l.all ≡ every l.i (passes l.test (curve_at l.form l.curves))
