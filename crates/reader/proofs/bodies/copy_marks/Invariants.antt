-- What the loop of `reader::bodies::copy_marks` keep.
use lib.ListN.{drop}
use Rattle.house.specs.Limits.{mark_field}
use Rattle.house.specs.Held.{in_each}
use Rattle.house.proofs.Turns.{Front}
use Rattle.reader.proofs.bodies.copy_marks.Given as goal

abbrev pub invariant-loop-i : goal.invariant-loop-i
invariant-loop-i l = Front (in_each (mark_field l.field) 1 l.p l.step l.i (drop l.at l.b)) l.initial.out l.out l.i
