-- `newton::refine` meets its contract.
use Rattle.std.proofs.Common.{refl, sym, ◌∙◌, rules}
use Rattle.float.proofs.Refusals.{handed_on}
use Rattle.newton.specs.Newton.{refine_by, into_unit}
use Rattle.newton.proofs.Rounds.{refine_off, refine_stop, refine_end}
use Rattle.newton.proofs.refine.Goals as goal

pub returns-then-not-vertices_finite : goal.returns-then-not-vertices_finite
returns-then-not-vertices_finite c = refine_off _ _ _ _ _ c.vertices_of-q.ensures (sym c.vertices_finite.ensures ∙ c.if-not-vertices_finite.true)

pub returns-in_err-u : goal.returns-in_err-u
unfolding refine_by
returns-in_err-u c =
    handed_on _ _ c.from_residual.ensures.1
    ∙ refine_stop _ _ _ _ _ c.vertices_of-q.ensures (sym c.vertices_finite.ensures ∙ c.if-not-vertices_finite.false) _
    (c.in_err-u.ensures (refine_by c.args.c c.vertices_of-q.result c.args.p) (λ u. refl, λ u r post. search rules))

pub returns : goal.returns
unfolding into_unit refine_by
returns c =
    simp (c.min.ensures, c.max.ensures)
    (refine_end _ _ _ _ _ c.vertices_of-q.ensures (sym c.vertices_finite.ensures ∙ c.if-not-vertices_finite.false) _
    (c.in_ok-u.ensures (refine_by c.args.c c.vertices_of-q.result c.args.p) (λ u. refl, λ u r post. search rules)))
