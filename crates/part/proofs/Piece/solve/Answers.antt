-- `part::Piece::solve` meets its contract.
use mathlib.Core.Path.{refl}
use Rattle.float.proofs.Refusals.{handed_on}
use Rattle.part.proofs.Trials.{found, lost, solves_no, solves_ok, solves_same, tried_off, tried_unmade, tried_lost, tried-over, tried-near}
use Rattle.part.proofs.Piece.solve.Goals as goal

pub returns-then-not-chords_for_points : goal.returns-then-not-chords_for_points
returns-then-not-chords_for_points c = solves_no _ _ _ 6 (tried_off _ _ _ _ _ _ _ c.chords_for_points.ensures.0 c.chords_for_points.ensures.1 c.if-not-chords_for_points.true) refl

pub returns-in_err-curve : goal.returns-in_err-curve
returns-in_err-curve c = solves_no _ _ _ _ (tried_unmade _ _ _ _ _ _ _ c.chords_for_points.ensures.0 c.chords_for_points.ensures.1 c.if-not-chords_for_points.false _ c.in_err-curve.ensures) (handed_on _ _ c.from_residual.ensures.1)

pub returns-in_err-s : goal.returns-in_err-s
returns-in_err-s c =
    solves_no _ _ _ _ (tried_lost _ _ _ _ _ _ _ c.chords_for_points.ensures.0 c.chords_for_points.ensures.1 c.if-not-chords_for_points.false _ c.in_ok-curve.ensures _ (lost _ _ _ c.in_err-s.ensures))
    (handed_on _ _ c.from_residual-in_err-s.ensures.1)

pub returns-then-s-self : goal.returns-then-s-self
returns-then-s-self c = solves_same _ _ _ _ (tried-over _ _ _ _ _ _ _ c.chords_for_points.ensures.0 c.chords_for_points.ensures.1 c.if-not-chords_for_points.false _ c.in_ok-curve.ensures _ (found _ _ _ c.in_ok-s.ensures) c.if-s-self.true) c.improve.ensures

pub returns : goal.returns
returns c = solves_ok _ _ _ (tried-near _ _ _ _ _ _ _ c.chords_for_points.ensures.0 c.chords_for_points.ensures.1 c.if-not-chords_for_points.false _ c.in_ok-curve.ensures _ (found _ _ _ c.in_ok-s.ensures) c.if-s-self.false)
