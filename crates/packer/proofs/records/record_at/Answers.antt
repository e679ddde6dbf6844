-- `packer::records::record_at` meets its contract.
use mathlib.Core.Path.{◌≡◌, ap, ◌∙◌}
use Prim.Native.Nat.{ℕ, ◌+◌, ◌*◌}
use native.Mathlib.Omega.{arith}
use Rattle.house.specs.declared.sizes.Field.{Field}
use Rattle.house.specs.Limits.{field_for, body_bytes, curve_bytes}
use Rattle.house.proofs.Forms.{body-few}
use Rattle.packer.proofs.records.record_at.Goals as goal
use Rattle.packer.proofs.records.record_at.Goals.{After-body_bytes-step}

-- the lengths of a body and of the records, as they were worked out
body_of : (c : After-body_bytes-step) → c.body_bytes-step.result ≡ body_bytes c.args.form (field_for c.args.n)
body_of c = c.body_bytes-step.ensures ∙ ap (λ (f : Field). body_bytes c.args.form f) c.field_for.ensures

records_of : (c : After-body_bytes-step) → (6 + c.body_bytes-step.result) * c.args.i ≡ curve_bytes c.args.form (field_for c.args.n) * c.args.i
records_of c = ap (λ (x : ℕ). (6 + x) * c.args.i) (body_of c)

pub overflow_add-step : goal.overflow_add-step
overflow_add-step c =
    let body = body_of (goal.at.overflow_add-step c).After-body_bytes-step in
    omega (arith, body-few c.args.form (field_for c.args.n), body)

pub overflow_mul-result-2 : goal.overflow_mul-result-2
overflow_mul-result-2 c =
    let records = records_of (goal.at.overflow_mul-result-2 c).After-body_bytes-step in
    omega (arith, records)

pub overflow_add-result-2 : goal.overflow_add-result-2
overflow_add-result-2 c =
    let records = records_of (goal.at.overflow_add-result-2 c).After-body_bytes-step in
    omega (arith, records)

pub returns : goal.returns
returns c =
    let records = records_of (goal.at.returns c).After-body_bytes-step in
    omega (arith, records)
