-- `newton::search` meets its contract: what is left to answer stays the same.
use Rattle.std.proofs.Common.{sym, ◌∙◌, Ok, Err, Some, None}
use native.Mathlib.Numerals.{unary_clauses}
use Rattle.float.proofs.Refusals.{handed_on}
use Rattle.newton.specs.Tests.{onward}
use Rattle.newton.proofs.Turns.{turned, at_end}
use Rattle.newton.proofs.search.Goals as goal

pub loop-init : goal.loop-init
loop-init g c = λ s by. simp unary_clauses

pub returns-in_err-v : goal.returns-in_err-v
unfolding onward
returns-in_err-v g c = λ s by.
    handed_on _ _ c.from_residual.ensures.1
    ∙ sym (turned s _ _ _ _ (c.loop.invariant s by) c.loop-test.true (Err c.in_err-v.field-0.0) (by.1 _ _ c.in_err-v.ensures))

pub returns-in_default : goal.returns-in_default
unfolding onward
returns-in_default g c = λ s by.
    sym (turned s _ _ _ _ (c.loop.invariant s by) c.loop-test.true (Ok None) (by.1 _ _ (rw c.in_default.is at c.in_ok-v.ensures)))

pub loop-preserved : goal.loop-preserved
unfolding onward
loop-preserved g c = λ s by.
    turned s _ _ _ _ (c.loop.invariant s by) c.loop-test.true (Ok (Some c.in-Some.v)) (by.1 _ _ (rw c.in-Some.is at c.in_ok-v.ensures))

pub returns : goal.returns
returns g c = λ s by. at_end s _ _ _ _ (c.loop.invariant s by) c.loop-test.false (by.0 c.loop.u)
