-- `squares::generate_bezier` meets its contract.
use mathlib.Core.Path.{sym, ◌∙◌}
use Rattle.float.proofs.Refusals.{handed_on}
use Rattle.squares.proofs.Least.{generate_off, generate_lost, generate_on}
use Rattle.squares.proofs.generate_bezier.Goals as goal

pub returns-then-not-sums_finite : goal.returns-then-not-sums_finite
returns-then-not-sums_finite c = generate_off _ _ _ _ _ c.sums_of-s.ensures (sym c.sums_finite.ensures ∙ c.if-not-sums_finite.true)

pub returns-in_err-a : goal.returns-in_err-a
returns-in_err-a c =
    handed_on _ _ c.from_residual.ensures.1
    ∙ generate_lost _ _ _ _ _ c.sums_of-s.ensures (sym c.sums_finite.ensures ∙ c.if-not-sums_finite.false) _ c.in_err-a.ensures

pub returns : goal.returns
returns c =
    generate_on _ _ _ _ _ c.sums_of-s.ensures (sym c.sums_finite.ensures ∙ c.if-not-sums_finite.false) _ c.in_ok-a.ensures
    c.mark_at.ensures c.mark_at-2.ensures c.place.ensures
