-- What the loop of `roots::find::find_bezier_roots` keeps.
use lib.ListN.{length}
use Rattle.roots.specs.Find.{find}
use Rattle.roots.proofs.Stack.{stack_of, Going}
use Rattle.roots.proofs.find.find_bezier_roots.Given as goal

abbrev pub invariant-loop : goal.invariant-loop
invariant-loop l = Going (find 8 2048 (stack_of l.initial.waiting l.initial.sections)) (length l.initial.roots) l.roots l.sections l.waiting l.counter l.found
