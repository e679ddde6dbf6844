-- The cycle {cut_part, fit_part} ends: the measure is the length of the marks, and one more at fit_part, which hands cut_part the same marks.
use lib.ListN.{length}
use Prim.Native.Nat.{◌+◌}
use Rattle.cut.proofs.+cut_part_fit_part.Given as goal

abbrev pub decreases-cut_part : goal.decreases-cut_part
decreases-cut_part l = length l.marks.now

abbrev pub decreases-fit_part : goal.decreases-fit_part
decreases-fit_part l = length l.marks.now + 1
