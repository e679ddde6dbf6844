-- `intercept::intercept::find_x_intercept_newton_raphson` meets its contract.
use Rattle.std.proofs.Common.{refl, sym, ◌∙◌, rules}
use Rattle.intercept.specs.Intercept.{newton_by}
use Rattle.intercept.proofs.Steps.{newton_on, newton_off}
use Rattle.intercept.proofs.intercept.find_x_intercept_newton_raphson.Goals as goal

pub returns-then-not-five_finite : goal.returns-then-not-five_finite
returns-then-not-five_finite c = newton_off _ _ _ c.derivative6-derivative.ensures (sym c.five_finite.ensures ∙ c.if-not-five_finite.true)

pub returns : goal.returns
unfolding newton_by
returns c =
    c.search.ensures (newton_by c.args.points c.derivative6-derivative.result) (λ u. refl, λ u r post. search rules)
    ∙ newton_on _ _ _ c.derivative6-derivative.ensures (sym c.five_finite.ensures ∙ c.if-not-five_finite.false)
