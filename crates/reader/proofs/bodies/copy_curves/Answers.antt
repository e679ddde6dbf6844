-- `reader::bodies::copy_curves` meets its contract.
use mathlib.Core.Path.{◌≡◌, ap}
use Prim.Native.Nat.{ℕ, ◌+◌, ◌*◌, ◌≤◌}
use native.Mathlib.Nat.{mul-le-mul_left}
use native.Mathlib.Omega.{arith}
use lib.ListN.{drop}
use Rattle.form.specs.Form.{width}
use Rattle.house.specs.Limits.{curve_bytes}
use Rattle.house.proofs.Forms.{field_few, body-few, beside_within, beside-few, worsts-few}
use Rattle.reader.proofs.Turns.{firsts_by, worsts_by, curves_by}
use Rattle.reader.proofs.bodies.copy_curves.Goals as goal

pub overflow_add-step : goal.overflow_add-step
overflow_add-step c = omega (arith, body-few c.args.form c.args.field, c.body_bytes-step.ensures)

pub copy_marks-requires : goal.copy_marks-requires
copy_marks-requires c =
    let bytes : (6 + c.body_bytes-step.result) * c.args.k ≡ curve_bytes c.args.form c.args.field * c.args.k = ap (λ (x : ℕ). (6 + x) * c.args.k) c.body_bytes-step.ensures in
    (omega (arith, bytes, c.requires.0), (omega (arith, beside_within c.args.form c.args.field, c.body_bytes-step.ensures), c.requires.1.0))

pub overflow_add-second : goal.overflow_add-second
overflow_add-second c = omega (arith, field_few c.args.field, c.mark_field-second.ensures)

pub copy_marks-requires-2 : goal.copy_marks-requires-2
copy_marks-requires-2 c =
    let bytes : (6 + c.body_bytes-step.result) * c.args.k ≡ curve_bytes c.args.form c.args.field * c.args.k = ap (λ (x : ℕ). (6 + x) * c.args.k) c.body_bytes-step.ensures in
    let w : c.worsts_for.result ≤ c.args.k = omega (arith, worsts-few c.args.form c.args.k, c.worsts_for.ensures) in
    (omega (arith, bytes, c.requires.0, mul-le-mul_left (6 + c.body_bytes-step.result) w), (omega (arith, beside_within c.args.form c.args.field, c.mark_field-second.ensures, c.body_bytes-step.ensures), omega (arith, c.worsts_for.ensures, c.requires.1.1.0)))

pub overflow_add-numbers : goal.overflow_add-numbers
overflow_add-numbers c = omega (arith, beside-few c.args.form c.args.field, c.beside_bytes-numbers.ensures)

pub copy_rows-requires : goal.copy_rows-requires
copy_rows-requires c =
    let bytes : (6 + c.body_bytes-step.result) * c.args.k ≡ curve_bytes c.args.form c.args.field * c.args.k = ap (λ (x : ℕ). (6 + x) * c.args.k) c.body_bytes-step.ensures in
    let numbers : c.width.result * c.args.k ≡ width c.args.form * c.args.k = ap (λ (x : ℕ). x * c.args.k) c.width.ensures in
    (omega (arith, bytes, c.requires.0), (omega (arith, c.body_bytes-step.ensures, c.beside_bytes-numbers.ensures, c.width.ensures), omega (arith, numbers, c.requires.1.1.1)))

pub returns : goal.returns
returns c =
    let a = c.args in
    let d = drop a.at a.b.now in
    let r = c.body_bytes-step.ensures in (
      firsts_by a.form a.field a.k d r a.firsts.now c.copy_marks.ensures,
      (worsts_by a.form a.field a.k d r a.worsts.now c.worsts_for.ensures c.mark_field-second.ensures c.copy_marks-2.ensures, curves_by a.form a.field a.k d r a.curves.now c.beside_bytes-numbers.ensures c.width.ensures c.copy_rows.ensures),
    )
