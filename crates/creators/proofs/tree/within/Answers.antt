-- `creators::tree::within` meets its contract: the live sections at a depth are those counted and those below what waits.
use Rattle.std.proofs.Common.{sym, refl, ◌∙◌, le_of_eq, eqb-true, arith}
use Rattle.creators.proofs.Count.{start, done, too_deep, dead, splits, alike}
use Rattle.creators.proofs.tree.within.Goals as goal
use Rattle.creators.proofs.tree.within.Goals.{then-depth-lt64+then-is_live+else-count-most+else-n-gt63, then-depth-lt64+else-is_live, else-depth-lt64}

pub loop-init : goal.loop-init
loop-init c = start _ _ _ refl refl refl refl

pub loop-preserved : goal.loop-preserved
loop-preserved c = elim c.if-depth-lt64.branch [
  | then-depth-lt64+then-is_live+else-count-most+else-n-gt63 w ↦
      alike _ _ _ _ _ _
      (splits _ _ _ _ _ _ c.loop.invariant (omega arith) w.if-depth-lt64.true w.if-count-most.false w.if-n-gt63.false _ _ w.halve-parts.ensures.0 w.halve-parts.ensures.1)
      w.counts-is w.waiting-is w.n-is
  | then-depth-lt64+else-is_live w ↦
      alike _ _ _ _ _ _
      (dead _ _ _ _ _ _ c.loop.invariant (omega arith) (sym w.is_live.ensures ∙ w.if-is_live.false))
      w.counts-is w.waiting-is w.n-is
  | else-depth-lt64 w ↦
      alike _ _ _ _ _ _
      (too_deep _ _ _ _ _ _ c.loop.invariant (omega arith) w.if-depth-lt64.false)
      w.counts-is w.waiting-is w.n-is
]

pub returns : goal.returns
returns c = λ t. done _ _ _ _ _ _ c.loop.invariant (le_of_eq (eqb-true _ _ t))
