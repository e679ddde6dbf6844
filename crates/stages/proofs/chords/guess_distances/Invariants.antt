-- What the loop of `stages::chords::guess_distances` keeps.
use mathlib.Core.Path.{◌≡◌}
use lib.ListN.{length}
use Rattle.stages.proofs.chords.guess_distances.Given as goal

abbrev pub invariant-loop-k : goal.invariant-loop-k
invariant-loop-k l = length l.params ≡ length l.initial.params
