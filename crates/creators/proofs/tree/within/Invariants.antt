-- What the loop of `creators::tree::within` keeps.
use Rattle.std.proofs.Common.{get_or}
use Rattle.creators.proofs.Count.{blank, Counting}
use Rattle.creators.proofs.tree.within.Given as goal

abbrev pub invariant-loop : goal.invariant-loop
invariant-loop l = Counting (get_or l.initial.waiting 0 blank).p l.most l.counts l.waiting l.n l.counter
