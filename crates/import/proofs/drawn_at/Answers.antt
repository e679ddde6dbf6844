-- `import::drawn_at` meets its contract.
use Rattle.import.proofs.Steps.{drawn_none, drawn_some}
use Rattle.import.proofs.drawn_at.Goals as goal

pub returns-in_err-drawn : goal.returns-in_err-drawn
returns-in_err-drawn c = rw c.from_residual.ensures (drawn_none _ _ _ c.in_err-drawn.ensures)

pub returns : goal.returns
returns c = drawn_some _ _ _ c.in_ok-drawn.ensures
