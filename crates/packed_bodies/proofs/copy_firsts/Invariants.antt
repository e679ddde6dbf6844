-- What the loop of `packed_bodies::copy_firsts` keep.
use Rattle.house.proofs.Turns.{Front}
use Rattle.packed.specs.Unpacked.{firsts_in}
use Rattle.packed_bodies.proofs.copy_firsts.Given as goal

abbrev pub invariant-loop-i : goal.invariant-loop-i
invariant-loop-i l = Front (firsts_in l.b l.form l.n l.i) l.initial.firsts l.firsts l.i
