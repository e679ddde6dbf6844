-- `packer::records::numbers_at` meets its contract.
use mathlib.Core.Path.{◌≡◌, ap, ◌∙◌}
use native.Mathlib.Omega.{arith}
use Rattle.house.specs.declared.sizes.Field.{Field}
use Rattle.house.specs.Limits.{field_for, beside_bytes}
use Rattle.packer.proofs.records.numbers_at.Goals as goal

pub overflow_add-result : goal.overflow_add-result
overflow_add-result c =
    let beside : c.beside_bytes-beside.result ≡ beside_bytes c.args.form (field_for c.args.n) = c.beside_bytes-beside.ensures ∙ ap (λ (f : Field). beside_bytes c.args.form f) c.field_for.ensures in
    omega (arith, beside, c.record_at.ensures)

pub overflow_add-result-2 : goal.overflow_add-result-2
overflow_add-result-2 c =
    let beside : c.beside_bytes-beside.result ≡ beside_bytes c.args.form (field_for c.args.n) = c.beside_bytes-beside.ensures ∙ ap (λ (f : Field). beside_bytes c.args.form f) c.field_for.ensures in
    omega (arith, beside, c.record_at.ensures)

pub returns : goal.returns
returns c =
    let beside : c.beside_bytes-beside.result ≡ beside_bytes c.args.form (field_for c.args.n) = c.beside_bytes-beside.ensures ∙ ap (λ (f : Field). beside_bytes c.args.form f) c.field_for.ensures in
    omega (arith, beside, c.record_at.ensures)
