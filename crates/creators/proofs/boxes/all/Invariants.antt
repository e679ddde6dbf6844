-- What the loop of `creators::boxes::all` keeps.
use Rattle.std.proofs.Common.{◌<◌}
use Rattle.creators.proofs.boxes.all.Given as goal

abbrev pub invariant-loop : goal.invariant-loop
invariant-loop l = l.k < 6
