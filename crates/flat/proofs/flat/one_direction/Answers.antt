-- `flat::flat::one_direction` meets its contract.
use mathlib.Core.Path.{sym, ap, ◌∙◌}
use Rattle.std.proofs.Common.{Err}
use Rattle.flat.proofs.Baseline.{both, held_is, level, rising}
use Rattle.flat.proofs.flat.one_direction.Goals as goal

pub returns-then-not-finite : goal.returns-then-not-finite
returns-then-not-finite c =
    let e = c.and_then-t.ensures ∙ both _ _ _ _ c.goes_on-t3.ensures (c.and_then-2.ensures ∙ both _ _ _ _ c.goes_on-t4.ensures (c.and_then.ensures ∙ both _ _ _ _ c.goes_on-t5.ensures c.goes_on-t6.ensures)) in
    ap (λ x. Err (record { holds = x })) (c.held.ensures ∙ held_is _ _ e)
    ∙ simp c.signum-y_direction.ensures (level _ (sym c.finite.ensures ∙ c.if-not-finite.true))

pub returns : goal.returns
returns c =
    let e = c.and_then-t.ensures ∙ both _ _ _ _ c.goes_on-t3.ensures (c.and_then-2.ensures ∙ both _ _ _ _ c.goes_on-t4.ensures (c.and_then.ensures ∙ both _ _ _ _ c.goes_on-t5.ensures c.goes_on-t6.ensures)) in
    e ∙ simp c.signum-y_direction.ensures (rising _ (sym c.finite.ensures ∙ c.if-not-finite.false))
