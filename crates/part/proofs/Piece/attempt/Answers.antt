-- `part::Piece::attempt` meets its contract.
use mathlib.Core.Path.{refl}
use Rattle.float.proofs.Refusals.{handed_on}
use Rattle.part.proofs.Trials.{solves_no, solves_ok, attempt_off, attempt_unmade, attempt-unmeasured, attempt-done}
use Rattle.part.proofs.Piece.attempt.Goals as goal

pub returns-then-not-reparameterize : goal.returns-then-not-reparameterize
returns-then-not-reparameterize c = solves_no _ _ _ 6 (attempt_off _ _ _ _ _ _ _ c.reparameterize.ensures.0 c.reparameterize.ensures.1 c.if-not-reparameterize.true) refl

pub returns-in_err-curve : goal.returns-in_err-curve
returns-in_err-curve c = solves_no _ _ _ _ (attempt_unmade _ _ _ _ _ _ _ c.reparameterize.ensures.0 c.reparameterize.ensures.1 c.if-not-reparameterize.false _ c.in_err-curve.ensures) (handed_on _ _ c.from_residual.ensures.1)

pub returns-in_err-far : goal.returns-in_err-far
returns-in_err-far c =
    solves_no _ _ _ _ (attempt-unmeasured _ _ _ _ _ _ _ c.reparameterize.ensures.0 c.reparameterize.ensures.1 c.if-not-reparameterize.false _ c.in_ok-curve.ensures _ c.in_err-far.ensures)
    (handed_on _ _ c.from_residual-in_err-far.ensures.1)

pub returns : goal.returns
returns c = solves_ok _ _ _ (attempt-done _ _ _ _ _ _ _ c.reparameterize.ensures.0 c.reparameterize.ensures.1 c.if-not-reparameterize.false _ c.in_ok-curve.ensures _ c.in_ok-far.ensures)
