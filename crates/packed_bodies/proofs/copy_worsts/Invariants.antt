-- What the loop of `packed_bodies::copy_worsts` keep.
use Rattle.house.proofs.Turns.{Front}
use Rattle.packed.specs.Each.{each}
use Rattle.packed.specs.Unpacked.{worst_place}
use Rattle.packed.proofs.Pieces.{mark}
use Rattle.packed_bodies.proofs.copy_worsts.Given as goal

abbrev pub invariant-loop-i : goal.invariant-loop-i
invariant-loop-i l = Front (each l.i (mark l.b (worst_place l.form l.n))) l.initial.worsts l.worsts l.i
