-- `squares::solve::place` meets its contract.
use mathlib.Core.Path.{sym, ◌∙◌}
use Rattle.squares.proofs.Controls.{place_third, place_alphas, place_off}
use Rattle.squares.proofs.solve.place.Goals as goal

pub returns-then-not-finite : goal.returns-then-not-finite
returns-then-not-finite c = place_off _ _ _ _ _ _ c.distance_to-seg_length.ensures (sym c.finite.ensures ∙ c.if-not-finite.true)

pub returns-then-a-epsilon : goal.returns-then-a-epsilon
returns-then-a-epsilon c =
    place_third _ _ _ _ _ _ c.distance_to-seg_length.ensures (sym c.finite.ensures ∙ c.if-not-finite.false) c.if-a-epsilon.true c.curve_of.ensures

pub returns : goal.returns
returns c =
    place_alphas _ _ _ _ _ _ c.distance_to-seg_length.ensures (sym c.finite.ensures ∙ c.if-not-finite.false) c.if-a-epsilon.false c.curve_of-2.ensures
