-- What the loops of `house::bytes::copy_words` keep.
use mathlib.Core.Path.{◌≡◌}
use mathlib.Core.List.{◌++◌}
use lib.ListN.{drop}
use Rattle.house.specs.Bytes.{words}
use Rattle.house.proofs.bytes.copy_words.Given as goal

abbrev pub invariant-loop-i : goal.invariant-loop-i
invariant-loop-i l = l.out ≡ words l.i (drop l.at l.b) ++ drop l.i l.initial.out
