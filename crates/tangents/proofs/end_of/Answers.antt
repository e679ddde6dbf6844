-- `tangents::end_of` meets its contract.
use native.Mathlib.Omega.{arith}
use mathlib.Core.Path.{◌≡◌, sym, ap, ◌∙◌}
use Prim.Native.Nat.{◌-◌}
use lib.ListN.{length-take}
use Rattle.float.specs.Answer.{outcome}
use Rattle.ring.specs.declared.Outline.TheVariants.{Open}
use Rattle.joints.specs.declared.Joint.{Joint}
use Rattle.joints.specs.Joints.{left_end}
use Rattle.tangents.specs.Ways.{outline_of, marks_of}
use Rattle.tangents.proofs.Blocks.{tail_within, met, open-marks, joint_inner, joint_closed, joint_as-closed, end_met, end_alone, end_seam, seam_of_is}
use Rattle.tangents.proofs.end_of.Goals as goal

pub joint_at-requires : goal.joint_at-requires
joint_at-requires c =
    let a = c.args in
    let p = c.requires in
    let m = met _ _ _ (sym c.meets.ensures ∙ c.if-meets.true) in
    joint_closed a.cutting a.marks.now a.n p.marks_len (a.to - 1) (omega (arith, p)) (omega (arith, p, m))

pub returns-then-meets : goal.returns-then-meets
returns-then-meets c =
    let a = c.args in
    let p = c.requires in
    let t = sym c.meets.ensures ∙ c.if-meets.true in
    let m = met _ _ _ t in
    c.left_end.ensures
    ∙ ap (λ (j : Joint). outcome (left_end j)) (c.joint_at.ensures ∙ joint_as-closed (outline_of a.cutting) a.marks.now (a.to - 1) (joint_inner a.cutting a.marks.now a.n p.marks_len (a.to - 1) (omega (arith, p)) (omega (arith, p, m))))
    ∙ ap outcome (sym (end_met a.cutting (marks_of a.cutting a.marks.now) a.n a.to t))

pub overflow_mul-tail : goal.overflow_mul-tail
overflow_mul-tail c =
    let a = c.args in
    let p = c.requires in
    omega (arith, tail_within a.cutting a.marks.now a.n p.marks_len (sym c.outline_of.ensures ∙ c.in-Open.is) _ _ p.le_to.0 p.le_to.1 c.end_at-tail.ensures, p)

pub slice_bounds-end_tangent-end : goal.slice_bounds-end_tangent-end
slice_bounds-end_tangent-end c =
    let a = c.args in
    let p = c.requires in
    simp length-take (omega (arith, tail_within a.cutting a.marks.now a.n p.marks_len (sym c.outline_of.ensures ∙ c.in-Open.is) _ _ p.le_to.0 p.le_to.1 c.end_at-tail.ensures, p))

pub end_tangent-requires : goal.end_tangent-requires
end_tangent-requires c =
    let a = c.args in
    let p = c.requires in
    simp length-take (omega (arith, tail_within a.cutting a.marks.now a.n p.marks_len (sym c.outline_of.ensures ∙ c.in-Open.is) _ _ p.le_to.0 p.le_to.1 c.end_at-tail.ensures, p))

pub returns-in-Closed : goal.returns-in-Closed
returns-in-Closed c =
    let a = c.args in
    let p = c.requires in
    let o = sym c.outline_of.ensures ∙ c.in-Closed.is in
    c.left_end-in-Closed.ensures
    ∙ ap (λ (j : Joint). outcome (left_end j)) (c.seam_of.ensures ∙ seam_of_is a.cutting a.marks.now a.n p.marks_len (omega (arith, p)) o)
    ∙ ap outcome (sym (end_seam a.cutting (marks_of a.cutting a.marks.now) a.n a.to (sym c.meets.ensures ∙ c.if-meets.false) o))

pub returns-in-Open : goal.returns-in-Open
returns-in-Open c =
    let a = c.args in
    let o : outline_of a.cutting ≡ Open = sym c.outline_of.ensures ∙ c.in-Open.is in
    c.end_tangent.ensures
    ∙ rw (c.end_at-tail.ensures, open-marks a.cutting a.marks.now o) (ap outcome (sym (end_alone a.cutting a.marks.now a.n a.to (sym c.meets.ensures ∙ c.if-meets.false) o)))
