-- What the loop of `reader::bodies::copy_rows` keep.
use Prim.Native.Nat.{◌*◌}
use lib.ListN.{drop}
use Rattle.house.specs.Held.{in_each}
use Rattle.house.proofs.Turns.{Front}
use Rattle.reader.proofs.bodies.copy_rows.Given as goal

abbrev pub invariant-loop-i : goal.invariant-loop-i
invariant-loop-i l = Front (in_each 8 l.n l.p l.step l.i (drop l.at l.b)) l.initial.out l.out (l.n * l.i)
