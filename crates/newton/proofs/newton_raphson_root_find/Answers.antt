-- `newton::newton_raphson_root_find` meets its contract.
use mathlib.Core.Path.{ap, ◌∙◌}
use Rattle.plane.specs.declared.Point.{Point}
use Rattle.newton.specs.Newton.{ratio_of}
use Rattle.newton.proofs.Steps.{step_is}
use Rattle.newton.proofs.newton_raphson_root_find.Goals as goal

pub returns : goal.returns
returns c =
    let a = c.args in
    step_is _ _ _ _ _
    (c.ratio_at-r.ensures ∙ ap (λ (x : Point). (ratio_of x a.q a.p a.t).val) c.point_at_pos.ensures)
    _ _ _ _
    c.clamp.ensures
    c.pick.ensures
    c.pick-2.ensures
    c.three_finite.ensures
