-- What the loops of `import::walk_on` keep.
use Prim.Native.Nat.{◌+◌, ◌≤◌}
use mathlib.Core.Path.{◌≡◌}
use lib.ListN.{length, drop}
use Rattle.path.specs.declared.Letter.TheVariants as letters
use Rattle.import.specs.Drawn.{Marked}
use Rattle.import.specs.Walk.{draws_of, left_answer}
use Rattle.import.proofs.walk_on.Given as goal

abbrev pub invariant-loop-by : goal.invariant-loop-by
invariant-loop-by l = (length l.out ≡ length l.initial.out) × (l.count + length (drop l.at l.text) ≤ length l.text) × Marked l.p
    × (left_answer l.start l.start 0 l.fits l.initial.out (draws_of letters.Line (drop l.from l.text)) ≡ left_answer l.start l.p l.count l.small l.out (draws_of l.letter (drop l.at l.text)))

abbrev pub decreases-loop-by : goal.decreases-loop-by
decreases-loop-by l = length (drop l.at l.text)
