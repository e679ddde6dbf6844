-- `part::Piece::improve` meets its contract: what is left to answer stays the same.
use mathlib.Core.Path.{refl, sym, ap, ◌∙◌}
use Prim.Native.Nat.{ℕ}
use native.Mathlib.Omega.{arith}
use Rattle.float.specs.Answer.{outcome}
use Rattle.float.proofs.Refusals.{handed_on}
use Rattle.part.specs.Trial.{improve}
use Rattle.part.specs.Answers.{trial_of}
use Rattle.part.proofs.Trials.{found, lost, solves_no, solves_ok, improve_end, go_lost, go_off, go_last, go_more}
use Rattle.part.proofs.Piece.improve.Goals as goal

pub returns-in_err-next : goal.returns-in_err-next
returns-in_err-next c = solves_no _ _ _ _ (go_lost _ _ _ _ _ _ _ _ c.loop.invariant (omega arith) _ (lost _ _ _ c.in_err-next.ensures)) (handed_on _ _ c.from_residual.ensures.1)

pub returns-then-not-finite : goal.returns-then-not-finite
returns-then-not-finite c = solves_no _ _ _ 6 (go_off _ _ _ _ _ _ _ _ c.loop.invariant (omega arith) _ (found _ _ _ c.in_ok-next.ensures) (sym c.finite.ensures ∙ c.if-not-finite.true)) refl

pub returns-then-ratio-next : goal.returns-then-ratio-next
returns-then-ratio-next c = solves_ok _ _ _ (go_last _ _ _ _ _ _ _ _ c.loop.invariant (omega arith) _ (found _ _ _ c.in_ok-next.ensures) (sym c.finite.ensures ∙ c.if-not-finite.false) c.if-ratio-next.true)

pub loop-preserved : goal.loop-preserved
loop-preserved c =
    go_more _ _ _ _ _ _ _ _ c.loop.invariant (omega arith) _ (found _ _ _ c.in_ok-next.ensures) (sym c.finite.ensures ∙ c.if-not-finite.false) c.if-ratio-next.false
    ∙ ap (λ (n : ℕ). outcome (improve n c.args.self.now.marks.now c.args.self.now.start_tangent c.args.self.now.end_tangent c.args.self.now.tolerance (trial_of c.in_ok-next.next c.attempt.new.params))) (omega arith)

pub returns : goal.returns
returns c = solves_ok _ _ _ (c.loop.invariant ∙ improve_end _ _ _ _ _ _ (omega arith))
