-- What the loop of `packed_bodies::copy_numbers` keep.
use Prim.Native.Nat.{◌*◌}
use Rattle.form.specs.Form.{width}
use Rattle.house.proofs.Turns.{Front}
use Rattle.packed.specs.Unpacked.{numbers_in}
use Rattle.packed_bodies.proofs.copy_numbers.Given as goal

abbrev pub invariant-loop-i : goal.invariant-loop-i
invariant-loop-i l = Front (numbers_in l.b l.form l.n l.i) l.initial.curves l.curves (width l.form * l.i)
