-- `packer::records::packed_length` meets its contract.
use mathlib.Core.Path.{◌≡◌, ap}
use Prim.Native.Nat.{ℕ, ◌*◌}
use native.Mathlib.Omega.{arith}
use Rattle.packed.specs.Packed.{entry_bytes}
use Rattle.packer.proofs.records.packed_length.Goals as goal
use Rattle.packer.proofs.records.packed_length.Goals.{After-entry_bytes}

-- the length of the curves, as it was worked out
entries_of : (c : After-entry_bytes) → c.entry_bytes.result * c.args.k ≡ entry_bytes c.args.form * c.args.k
entries_of c = ap (λ (x : ℕ). x * c.args.k) c.entry_bytes.ensures

pub overflow_mul-result : goal.overflow_mul-result
overflow_mul-result c =
    let entries = entries_of (goal.at.overflow_mul-result c).After-entry_bytes in
    omega (arith, entries)

pub overflow_add-result : goal.overflow_add-result
overflow_add-result c =
    let entries = entries_of (goal.at.overflow_add-result c).After-entry_bytes in
    omega (arith, entries)

pub overflow_add-result-2 : goal.overflow_add-result-2
overflow_add-result-2 c =
    let entries = entries_of (goal.at.overflow_add-result-2 c).After-entry_bytes in
    omega (arith, entries)

pub returns : goal.returns
returns c =
    let entries = entries_of (goal.at.returns c).After-entry_bytes in
    omega (arith, entries)
