-- `newton::round_by` meets its contract.
use mathlib.Core.Path.{sym, ◌∙◌}
use Rattle.newton.proofs.Turns.{round_lost, round_stops, round_next, round_flown}
use Rattle.newton.proofs.round_by.Goals as goal

pub returns-then-not-two_finite : goal.returns-then-not-two_finite
returns-then-not-two_finite c = λ s by. round_lost s _ _ _ by (sym c.two_finite.ensures ∙ c.if-not-two_finite.true)

pub returns-then-near-r : goal.returns-then-near-r
returns-then-near-r c = λ s by. round_stops s _ _ _ by (sym c.two_finite.ensures ∙ c.if-not-two_finite.false) c.if-near-r.true

pub returns-then-not-finite : goal.returns-then-not-finite
returns-then-not-finite c = λ s by.
    round_flown s _ _ _ by (sym c.two_finite.ensures ∙ c.if-not-two_finite.false) c.if-near-r.false (sym c.finite.ensures ∙ c.if-not-finite.true)

pub returns : goal.returns
returns c = λ s by.
    round_next s _ _ _ by (sym c.two_finite.ensures ∙ c.if-not-two_finite.false) c.if-near-r.false (sym c.finite.ensures ∙ c.if-not-finite.false)
