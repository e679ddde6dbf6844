-- `sieve::fate_of` meets its contract.
use mathlib.Core.Path.{sym, ◌∙◌}
use Rattle.sieve.proofs.Fates.{fate_range, fate_equal, fate_kept}
use Rattle.sieve.proofs.fate_of.Goals as goal

pub returns-then-again : goal.returns-then-again
returns-then-again c = let a = c.args in fate_equal a.last a.p (sym c.point_in_range.ensures ∙ c.if-point_in_range.true) (sym c.again.ensures ∙ c.if-again.true)

pub returns-then-point_in_range : goal.returns-then-point_in_range
returns-then-point_in_range c = let a = c.args in fate_kept a.last a.p (sym c.point_in_range.ensures ∙ c.if-point_in_range.true) (sym c.again.ensures ∙ c.if-again.false)

pub returns : goal.returns
returns c = let a = c.args in fate_range a.last a.p (sym c.point_in_range.ensures ∙ c.if-point_in_range.false)
