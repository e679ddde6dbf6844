-- What the loop of `nearest::choose::choose` keeps.
use lib.ListN.{drop}
use Rattle.nearest.specs.Choose.{choose_of}
use Rattle.nearest.proofs.Candidates.{Left}
use Rattle.nearest.proofs.choose.choose.Given as goal

abbrev pub invariant-loop-t : goal.invariant-loop-t
invariant-loop-t l = Left l.c l.p (choose_of l.c l.p l.roots) (drop l.t-index l.roots) l.best
