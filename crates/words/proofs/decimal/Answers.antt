-- `words::decimal` meets its contract.
use mathlib.Core.Path.{sym, ◌∙◌}
use Rattle.words.specs.Words.{decimal_of}
use Rattle.words.proofs.decimal.Goals as goal

pub returns-then-plain : goal.returns-then-plain
unfolding decimal_of
returns-then-plain c = simp (sym c.plain.ensures ∙ c.if-plain.true, c.«number_in».ensures)

pub returns : goal.returns
unfolding decimal_of
returns c = simp (sym c.plain.ensures ∙ c.if-plain.false)
