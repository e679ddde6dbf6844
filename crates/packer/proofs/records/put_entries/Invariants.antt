-- What the loop of `packer::records::put_entries` keep.
use mathlib.Core.Path.{◌≡◌}
use lib.Seq.{sets}
use Rattle.house.specs.Held.{file_at}
use Rattle.packed.specs.Each.{each}
use Rattle.packed.specs.Packed.{entry_of}
use Rattle.packer.proofs.records.put_entries.Given as goal

abbrev pub invariant-loop-i : goal.invariant-loop-i
invariant-loop-i l = l.out ≡ sets l.initial.out l.at (each l.i (entry_of (file_at l.file l.form l.n l.k)))
