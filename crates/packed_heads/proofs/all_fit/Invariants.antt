-- What the loops of `packed_heads::all_fit` keep.
use mathlib.Core.Path.{◌≡◌}
use mathlib.Core.Bool.{true}
use Prim.Native.Nat.{ℕ, ◌+◌, ◌*◌}
use lib.ListN.{drop}
use Rattle.house.specs.Limits.{mark_field}
use Rattle.house.specs.Bytes.{row, all_fit}
use Rattle.packed.specs.Each.{each}
use Rattle.packed_heads.proofs.all_fit.Given as goal

abbrev pub invariant-loop-i : goal.invariant-loop-i
invariant-loop-i l = all_fit (mark_field l.field) (each l.i (λ (i : ℕ). row 4 1 (drop (l.at + l.step * i) l.b))) ≡ true
