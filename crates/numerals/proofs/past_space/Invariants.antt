-- What the loops of `numerals::past_space` keep.
use Prim.Native.Nat.{◌+◌, ◌-◌}
use mathlib.Core.Path.{◌≡◌}
use lib.ListN.{length, drop}
use Rattle.path.specs.Numbers.{is_space, leading}
use Rattle.numerals.proofs.past_space.Given as goal

abbrev pub invariant-loop-i : goal.invariant-loop-i
invariant-loop-i l = l.at + leading is_space (drop l.at l.text) ≡ l.i + leading is_space (drop l.i l.text)

abbrev pub decreases-loop-i : goal.decreases-loop-i
decreases-loop-i l = length l.text - l.i
