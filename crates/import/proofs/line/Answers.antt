-- `import::line` meets its contract.
use mathlib.Core.Path.{◌∙◌}
use Rattle.import.proofs.Lines.{line_is}
use Rattle.import.proofs.line.Goals as goal

pub returns : goal.returns
returns c = c.unwrap_or.ensures ∙ line_is c.args.p c.args.q c.requires.0 c.requires.1 _ _ c.fit_line.ensures
