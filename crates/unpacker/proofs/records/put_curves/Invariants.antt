-- What the loop of `unpacker::records::put_curves` keep.
use mathlib.Core.Path.{◌≡◌}
use lib.Seq.{sets}
use Rattle.packed.specs.Each.{each}
use Rattle.unpacker.specs.Records.{record_here}
use Rattle.unpacker.proofs.records.put_curves.Given as goal

abbrev pub invariant-loop-i : goal.invariant-loop-i
invariant-loop-i l = l.out ≡ sets l.initial.out l.at (each l.i (record_here l.file l.form l.field l.n))
