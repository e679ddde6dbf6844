-- `writer::records::put_curves` meets its contract. After i turns the records of the first i curves are put.
use mathlib.Core.Path.{◌≡◌, refl, ap, ◌∙◌}
use Prim.Native.Nat.{ℕ, ◌+◌, ◌*◌, ◌<◌, ◌≤◌}
use native.Mathlib.Omega.{arith}
use lib.ListN.{length}
use Rattle.form.specs.Form.{width, worsts_for}
use Rattle.house.specs.Limits.{curve_bytes}
use Rattle.house.specs.File.{flat, curve_records}
use Rattle.house.proofs.Forms.{body-few, within, worsts_within}
use Rattle.writer.proofs.Turns.{curves-put}
use Rattle.writer.proofs.records.put_curves.Goals as goal
use Rattle.writer.proofs.records.put_curves.Goals.{In-loop-i}

-- record i is within the bytes
inside_of : (c : In-loop-i) → let a = c.args in let step = 6 + c.body_bytes-step.result in (step * c.loop-i.i + step ≤ step * a.k) × (step * a.k ≡ curve_bytes a.form a.field * a.k)
inside_of c = let a = c.args in (within (6 + c.body_bytes-step.result) a.k c.loop-i.i (omega arith), ap (λ (x : ℕ). (6 + x) * a.k) c.body_bytes-step.ensures)

pub overflow_add-step : goal.overflow_add-step
overflow_add-step c = omega (arith, body-few c.args.form c.args.field, c.body_bytes-step.ensures)

pub loop-i-init : goal.loop-i-init
unfolding flat curve_records
loop-i-init c = refl

pub overflow_mul-step : goal.overflow_mul-step
overflow_mul-step c =
    let inside = inside_of (goal.at.overflow_mul-step c).In-loop-i in
    omega (arith, inside)

pub overflow_add-at : goal.overflow_add-at
overflow_add-at c =
    let inside = inside_of (goal.at.overflow_add-at c).In-loop-i in
    omega (arith, inside)

pub put_curve-requires : goal.put_curve-requires
put_curve-requires c =
    let inside = inside_of (goal.at.put_curve-requires c).In-loop-i in
    let i = c.loop-i.i in (
      omega (arith, inside, c.body_bytes-step.ensures, c.requires.0),
      (
        omega (arith, c.requires.1.0),
        (
          omega (arith, worsts_within c.args.form c.args.k i (omega arith), c.requires.1.1.0),
          omega (arith, within (width c.args.form) c.args.k i (omega arith), c.requires.1.1.1),
        ),
      ),
    )

pub loop-i-preserved : goal.loop-i-preserved
loop-i-preserved c =
    let l = c.loop-i in
    let a = c.args in
    let h : l.i < length a.firsts.now = omega (arith, c.requires.1.0) in
    let w : worsts_for a.form (l.i + 1) ≤ length a.worsts.now = omega (arith, worsts_within a.form a.k l.i (omega arith), c.requires.1.1.0) in
    let n : width a.form * (l.i + 1) ≤ length a.curves.now = omega (arith, within (width a.form) a.k l.i (omega arith), c.requires.1.1.1) in
    c.put_curve.ensures ∙ rw (l.invariant, c.body_bytes-step.ensures) (curves-put a.form a.field a.out.now a.firsts.now a.worsts.now a.curves.now a.at l.i h w n)

pub returns : goal.returns
returns c =
    let l = c.loop-i in
    let a = c.args in
    let e : l.i ≡ a.k = omega arith in
    rw e at l.invariant
