-- `tangents::start_of` meets its contract.
use native.Mathlib.Omega.{arith}
use mathlib.Core.Path.{◌≡◌, sym, ap, ◌∙◌}
use Prim.Native.Nat.{◌-◌, ◌*◌}
use lib.ListN.{length, drop, length-take, length-drop}
use lib.Seq.{take_all}
use Rattle.float.specs.Answer.{outcome}
use Rattle.ring.specs.declared.Outline.TheVariants.{Open}
use Rattle.joints.specs.declared.Joint.{Joint}
use Rattle.joints.specs.Joints.{right_start}
use Rattle.tangents.specs.Ways.{outline_of, marks_of}
use Rattle.tangents.proofs.Blocks.{head_within, met, open-marks, joint_inner, joint_closed, joint_as-closed, start_met, start_alone, start_seam, seam_of_is}
use Rattle.tangents.proofs.start_of.Goals as goal

pub joint_at-requires : goal.joint_at-requires
joint_at-requires c =
    let a = c.args in
    let p = c.requires in
    joint_closed a.cutting a.marks.now a.n p.marks_len a.from (met _ _ _ (sym c.meets.ensures ∙ c.if-meets.true)) (omega (arith, p))

pub returns-then-meets : goal.returns-then-meets
returns-then-meets c =
    let a = c.args in
    let p = c.requires in
    let t = sym c.meets.ensures ∙ c.if-meets.true in
    c.right_start.ensures
    ∙ ap (λ (j : Joint). outcome (right_start j)) (c.joint_at.ensures ∙ joint_as-closed (outline_of a.cutting) a.marks.now a.from (joint_inner a.cutting a.marks.now a.n p.marks_len a.from (met _ _ _ t) (omega (arith, p))))
    ∙ ap outcome (sym (start_met a.cutting (marks_of a.cutting a.marks.now) a.n a.from t))

pub overflow_mul-head : goal.overflow_mul-head
overflow_mul-head c =
    let a = c.args in
    let p = c.requires in
    omega (arith, head_within a.cutting a.marks.now a.n p.marks_len (sym c.outline_of.ensures ∙ c.in-Open.is) _ _ p.from_bound.0 c.start_at-head.ensures, p)

pub offset_bounds-marks-head : goal.offset_bounds-marks-head
offset_bounds-marks-head c =
    let a = c.args in
    let p = c.requires in
    omega (arith, head_within a.cutting a.marks.now a.n p.marks_len (sym c.outline_of.ensures ∙ c.in-Open.is) _ _ p.from_bound.0 c.start_at-head.ensures, p)

pub slice_bounds-start_tangent-count : goal.slice_bounds-start_tangent-count
slice_bounds-start_tangent-count c =
    let a = c.args in
    let p = c.requires in
    omega (arith, head_within a.cutting a.marks.now a.n p.marks_len (sym c.outline_of.ensures ∙ c.in-Open.is) _ _ p.from_bound.0 c.start_at-head.ensures, p)

pub slice_bounds-start_tangent-start : goal.slice_bounds-start_tangent-start
slice_bounds-start_tangent-start c =
    let a = c.args in
    let p = c.requires in
    omega (arith, head_within a.cutting a.marks.now a.n p.marks_len (sym c.outline_of.ensures ∙ c.in-Open.is) _ _ p.from_bound.0 c.start_at-head.ensures, p)

pub start_tangent-requires : goal.start_tangent-requires
start_tangent-requires c =
    let a = c.args in
    let p = c.requires in
    simp (length-take, length-drop) (omega (arith, head_within a.cutting a.marks.now a.n p.marks_len (sym c.outline_of.ensures ∙ c.in-Open.is) _ _ p.from_bound.0 c.start_at-head.ensures, p))

pub returns-in-Closed : goal.returns-in-Closed
returns-in-Closed c =
    let a = c.args in
    let p = c.requires in
    let o = sym c.outline_of.ensures ∙ c.in-Closed.is in
    c.right_start-in-Closed.ensures
    ∙ ap (λ (j : Joint). outcome (right_start j)) (c.seam_of.ensures ∙ seam_of_is a.cutting a.marks.now a.n p.marks_len (omega (arith, p)) o)
    ∙ ap outcome (sym (start_seam a.cutting (marks_of a.cutting a.marks.now) a.n a.from (sym c.meets.ensures ∙ c.if-meets.false) o))

pub returns-in-Open : goal.returns-in-Open
returns-in-Open c =
    let a = c.args in
    let at = c.start_at-head.result in
    let o : outline_of a.cutting ≡ Open = sym c.outline_of.ensures ∙ c.in-Open.is in
    c.start_tangent.ensures
    ∙ rw (take_all (length a.marks.now - 2 * at) (drop (2 * at) a.marks.now) (simp length-drop (omega arith)), c.start_at-head.ensures, open-marks a.cutting a.marks.now o) (ap outcome (sym (start_alone a.cutting a.marks.now a.n a.from (sym c.meets.ensures ∙ c.if-meets.false) o)))
