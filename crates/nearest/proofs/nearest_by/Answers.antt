-- `nearest::nearest_by` meets its contract.
use Rattle.nearest.specs.Nearest.{nearest_answer}
use Rattle.nearest.specs.Tests.{run_of}
use Rattle.nearest.proofs.Calls.{none_found, chosen, unchosen}
use Rattle.nearest.proofs.nearest_by.Goals as goal

pub returns-then-best : goal.returns-then-best
unfolding nearest_answer run_of
returns-then-best c = chosen _ _ _ _ _ c.in-Ok.ensures.found _ c.choose-best.ensures c.if-best.true

pub returns-else-best : goal.returns-else-best
unfolding nearest_answer
returns-else-best c = unchosen _ _ _ _ _ c.in-Ok.ensures.found _ c.choose-best.ensures c.if-best.false

pub returns-in-Err : goal.returns-in-Err
unfolding nearest_answer
returns-in-Err c = none_found _ _ _ _ _ c.in-Err.ensures.found
