-- What the loop of `writer::records::marks_fit` keep.
use mathlib.Core.Path.{◌≡◌}
use mathlib.Core.Bool.{true}
use lib.ListN.{take}
use Rattle.house.specs.Limits.{mark_field}
use Rattle.house.specs.Bytes.{all_fit}
use Rattle.writer.proofs.records.marks_fit.Given as goal

abbrev pub invariant-loop-x : goal.invariant-loop-x
invariant-loop-x l = all_fit (mark_field l.field) (take l.x-index (take l.k l.marks)) ≡ true
