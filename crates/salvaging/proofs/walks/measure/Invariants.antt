-- What the loop of `salvaging::walks::measure` keep.
use mathlib.Core.Path.{◌≡◌}
use Prim.Native.Nat.{◌+◌, ◌*◌, ◌≤◌}
use lib.ListN.{length}
use Rattle.salvaging.specs.Layout.{part_of}
use Rattle.salvaging.proofs.Walk.{left_of}
use Rattle.salvaging.proofs.walks.measure.Given as goal

abbrev pub invariant-loop-i : goal.invariant-loop-i
invariant-loop-i l = (l.size ≤ 32 * l.i) × (l.size + length (left_of l.part l.file l.n l.last l.i) ≡ length (part_of l.part l.file l.n))
