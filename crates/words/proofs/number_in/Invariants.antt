-- What the loops of `words::number_in` keep.
use mathlib.Core.Path.{◌≡◌}
use lib.ListN.{drop}
use Rattle.words.specs.Words.{number_from}
use Rattle.words.proofs.number_in.Given as goal

abbrev pub invariant-loop-b : goal.invariant-loop-b
invariant-loop-b l = number_from l.base 0 l.s ≡ number_from l.base l.v (drop l.b-index l.s)
