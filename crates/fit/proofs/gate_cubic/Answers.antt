-- `fit::gate_cubic`: each return is decided by the tests before it.
use mathlib.Core.Path.{◌∙◌}
use borrow.Author.Tests.{ne_eqb}
use Rattle.float.specs.Refusal.{number}
use Rattle.float.proofs.Refusals.{test_handed_on}
use Rattle.gate.proofs.Tests.{never_zero}
use Rattle.fit.specs.Fit.{cubic_gate}
use Rattle.fit.proofs.gate_cubic.Goals as goal

pub returns-in_err-gate : goal.returns-in_err-gate
unfolding cubic_gate
returns-in_err-gate c = test_handed_on _ _ c.from_residual.ensures.1 ∙ rw (← c.in_err-gate.ensures, ne_eqb (number _) 0 (never_zero _))

pub returns-then-not-are_tangents : goal.returns-then-not-are_tangents
unfolding cubic_gate
returns-then-not-are_tangents c = rw (← c.in_ok-gate.ensures, ← c.are_tangents.ensures, c.if-not-are_tangents.true)

pub returns : goal.returns
unfolding cubic_gate
returns c = rw (← c.in_ok-gate.ensures, ← c.are_tangents.ensures, c.if-not-are_tangents.false)
