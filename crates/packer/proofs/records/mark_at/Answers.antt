-- `packer::records::mark_at` meets its contract.
use mathlib.Core.Path.{sym, ap, ◌∙◌}
use Prim.Native.Nat.{◌+◌, ◌*◌, ◌≤◌}
use native.Mathlib.Omega.{arith}
use Rattle.house.specs.Limits.{field_for, mark_field, curve_bytes}
use Rattle.house.proofs.Forms.{within, beside_within}
use Rattle.packer.proofs.Pieces.{mark_some, mark_last}
use Rattle.packer.proofs.records.mark_at.Goals as goal

pub returns-then-i-k : goal.returns-then-i-k
returns-then-i-k c = let a = c.args in sym (mark_last a.file.now a.form a.n a.k a.i (omega arith))

pub record_at-requires : goal.record_at-requires
record_at-requires c =
    let inside : let a = c.args in curve_bytes a.form (field_for a.n) * a.i + curve_bytes a.form (field_for a.n) ≤ curve_bytes a.form (field_for a.n) * a.k = let a = c.args in within (curve_bytes a.form (field_for a.n)) a.k a.i (omega arith) in
    omega (arith, inside, c.requires.0)

pub overflow_add-record_at : goal.overflow_add-record_at
overflow_add-record_at c =
    let inside : let a = c.args in curve_bytes a.form (field_for a.n) * a.i + curve_bytes a.form (field_for a.n) ≤ curve_bytes a.form (field_for a.n) * a.k = let a = c.args in within (curve_bytes a.form (field_for a.n)) a.k a.i (omega arith) in
    omega (arith, inside, c.record_at.ensures, c.requires.0)

pub mark_number-requires : goal.mark_number-requires
mark_number-requires c =
    let inside : let a = c.args in curve_bytes a.form (field_for a.n) * a.i + curve_bytes a.form (field_for a.n) ≤ curve_bytes a.form (field_for a.n) * a.k = let a = c.args in within (curve_bytes a.form (field_for a.n)) a.k a.i (omega arith) in
    let a = c.args in omega (arith, inside, beside_within a.form (field_for a.n), ap mark_field c.field_for.ensures, c.record_at.ensures, c.requires.0)

pub returns : goal.returns
returns c = let a = c.args in c.mark_number.ensures.0 ∙ rw (c.field_for.ensures, c.record_at.ensures) (sym (mark_some a.file.now a.form a.n a.k a.i (omega arith)))
