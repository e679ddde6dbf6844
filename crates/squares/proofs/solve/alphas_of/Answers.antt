-- `squares::solve::alphas_of` meets its contract.
use mathlib.Core.Path.{sym, ◌∙◌}
use Rattle.squares.proofs.Controls.{alphas_zero, alphas_on, alphas_lost, alphas_off}
use Rattle.squares.proofs.solve.alphas_of.Goals as goal

pub returns-then-not-three_finite : goal.returns-then-not-three_finite
returns-then-not-three_finite c = alphas_off _ _ c.determinants_of-d.ensures (sym c.three_finite.ensures ∙ c.if-not-three_finite.true)

pub returns-then-abs : goal.returns-then-abs
returns-then-abs c =
    alphas_zero _ _ c.determinants_of-d.ensures (sym c.three_finite.ensures ∙ c.if-not-three_finite.false) (rw c.abs.ensures at c.if-abs.true)

pub returns-then-not-two_finite : goal.returns-then-not-two_finite
returns-then-not-two_finite c =
    alphas_lost _ _ c.determinants_of-d.ensures (sym c.three_finite.ensures ∙ c.if-not-three_finite.false) (rw c.abs.ensures at c.if-abs.false) _ c.quotients_of-a.ensures
    (sym c.two_finite.ensures ∙ c.if-not-two_finite.true)

pub returns : goal.returns
returns c =
    alphas_on _ _ c.determinants_of-d.ensures (sym c.three_finite.ensures ∙ c.if-not-three_finite.false) (rw c.abs.ensures at c.if-abs.false) _ c.quotients_of-a.ensures
    (sym c.two_finite.ensures ∙ c.if-not-two_finite.false)
