-- What the loops of `path_text::curves_length` keep.
use mathlib.Core.Path.{◌≡◌}
use Prim.Native.Nat.{◌*◌, ◌≤◌}
use lib.ListN.{length}
use Rattle.faults.specs.Tests.{curve_at}
use Rattle.path.specs.Text.{curves_text}
use Rattle.path_text.proofs.curves_length.Given as goal

abbrev pub invariant-loop-i : goal.invariant-loop-i
invariant-loop-i l = (l.total ≡ length (curves_text l.i (curve_at l.form l.curves))) × (l.total ≤ 92 * l.i)
