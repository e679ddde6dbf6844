-- `house::sizes::form_of` meets its contract.
use mathlib.Core.Path.{sym, ◌∙◌}
use borrow.Author.Tests.{eq-eqb, ne_eqb}
use Rattle.form.specs.declared.Form.TheVariants.{Nine}
use Rattle.house.specs.Limits.{curve_kind}
use Rattle.house.specs.Held.{form_of}
use Rattle.house.proofs.sizes.form_of.Goals as goal

pub returns-then-kind-curve_kind : goal.returns-then-kind-curve_kind
unfolding form_of
returns-then-kind-curve_kind c = rw (eq-eqb c.args.kind (curve_kind Nine c.args.field) (c.if-kind-curve_kind.true ∙ c.curve_kind.ensures))

pub returns : goal.returns
unfolding form_of
returns c = rw (ne_eqb c.args.kind (curve_kind Nine c.args.field) (λ e. c.if-kind-curve_kind.false (e ∙ sym c.curve_kind.ensures)))
