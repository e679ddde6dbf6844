-- What the loop of `packer::records::curves_meet` keep.
use mathlib.Core.Path.{◌≡◌}
use Prim.Native.Nat.{suc}
use Rattle.house.specs.Held.{file_at}
use Rattle.packed.specs.Each.{each}
use Rattle.packed.specs.Packed.{start_at, end_at}
use Rattle.packer.proofs.records.curves_meet.Given as goal

abbrev pub invariant-loop-i : goal.invariant-loop-i
invariant-loop-i l = each l.i (end_at (file_at l.file l.form l.n l.k)) ≡ each l.i (λ j. start_at (file_at l.file l.form l.n l.k) (suc j))
