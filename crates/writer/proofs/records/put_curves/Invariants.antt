-- What the loop of `writer::records::put_curves` keep.
use mathlib.Core.Path.{◌≡◌}
use Prim.Native.Nat.{◌*◌}
use lib.ListN.{take}
use lib.Seq.{sets}
use Rattle.form.specs.Form.{width, worsts_for}
use Rattle.house.specs.File.{flat, curve_records}
use Rattle.writer.proofs.records.put_curves.Given as goal

abbrev pub invariant-loop-i : goal.invariant-loop-i
invariant-loop-i l = l.out ≡ sets l.initial.out l.at (flat (curve_records l.form l.field (take l.i l.firsts) (take (worsts_for l.form l.i) l.worsts) (take (width l.form * l.i) l.curves)))
