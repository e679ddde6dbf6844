-- `import::line_at` meets its contract.
use Rattle.import.specs.Drawn.{standing}
use Rattle.import.proofs.Pieces.{from, none, marked, line_none, line_some}
use Rattle.import.proofs.line_at.Goals as goal

pub returns-in_err-end : goal.returns-in_err-end
returns-in_err-end c = rw c.from_residual.ensures (line_none c.args.p _ (none standing _ c.in_err-end.ensures))

pub line-requires : goal.line-requires
line-requires c = (c.requires, marked (from standing _ c.in_ok-end.ensures))

pub returns : goal.returns
returns c = line_some c.args.p _ (from standing _ c.in_ok-end.ensures) c.line.ensures
