-- What the loops of `numerals::digits_from` keep.
use Prim.Native.Nat.{suc, ◌-◌, ◌≤◌}
use mathlib.Core.Path.{◌≡◌}
use lib.ListN.{length}
use Rattle.path.specs.Decimals.{most}
use Rattle.numerals.specs.Numerals.{digits_of}
use Rattle.numerals.proofs.digits_from.Given as goal

abbrev pub invariant-loop-v : goal.invariant-loop-v
invariant-loop-v l = (l.v ≤ suc most) × (digits_of l.text l.at l.value ≡ digits_of l.text l.i l.v)

abbrev pub decreases-loop-v : goal.decreases-loop-v
decreases-loop-v l = length l.text - l.i
