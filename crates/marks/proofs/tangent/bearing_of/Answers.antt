-- `marks::tangent::bearing_of` meets its contract.
use mathlib.Core.Path.{sym, ◌∙◌}
use Rattle.marks.proofs.Fine.{far_off, nowhere, toward_on, toward_off}
use Rattle.marks.proofs.tangent.bearing_of.Goals as goal

pub returns-in_default : goal.returns-in_default
returns-in_default c = nowhere _ _ c.magnitude-m.ensures (sym c.finite.ensures ∙ c.if-finite.true) _ c.unit_by.ensures c.in_default.is

pub returns-then-point_finite : goal.returns-then-point_finite
returns-then-point_finite c = toward_on _ _ c.magnitude-m.ensures (sym c.finite.ensures ∙ c.if-finite.true) _ c.unit_by.ensures _ c.in-Some.is (sym c.point_finite.ensures ∙ c.if-point_finite.true)

pub returns-else-point_finite : goal.returns-else-point_finite
returns-else-point_finite c = toward_off _ _ c.magnitude-m.ensures (sym c.finite.ensures ∙ c.if-finite.true) _ c.unit_by.ensures _ c.in-Some.is (sym c.point_finite.ensures ∙ c.if-point_finite.false)

pub returns-else-finite : goal.returns-else-finite
returns-else-finite c = far_off _ _ c.magnitude-m.ensures (sym c.finite.ensures ∙ c.if-finite.false)
