-- `nearest::choose::choose` meets its contract: what is left to choose from stays the same.
use Rattle.nearest.proofs.Candidates.{at_first, steps, settles}
use Rattle.nearest.proofs.choose.choose.Goals as goal

pub loop-t-init : goal.loop-t-init
loop-t-init c = at_first _ _ _ _ c.start_at-best.ensures

pub loop-t-preserved : goal.loop-t-preserved
loop-t-preserved c =
    steps _ _ _ _ _ _ _ c.loop-t.invariant c.loop-t-test.true c.better_root-best.ensures

pub returns : goal.returns
returns c = settles _ _ _ _ _ _ _ c.loop-t.invariant c.loop-t-test.false c.better.ensures
