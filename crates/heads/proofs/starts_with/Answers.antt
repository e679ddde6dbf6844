-- `heads::starts_with` meets its contract.
use mathlib.Core.Path.{sym, ◌∙◌}
use Rattle.house.specs.Layout.{starts_with}
use Rattle.heads.proofs.starts_with.Goals as goal

pub returns-then-has_head : goal.returns-then-has_head
unfolding starts_with
returns-then-has_head c = c.has_head-then-has_head.ensures ∙ rw (sym c.has_head.ensures ∙ c.if-has_head.true)

pub returns : goal.returns
unfolding starts_with
returns c = rw (sym c.has_head.ensures ∙ c.if-has_head.false)
