-- `packer::records::put_worst` meets its contract.
use mathlib.Core.Path.{ap, ◌∙◌}
use Prim.Native.Nat.{◌+◌, ◌≤◌}
use native.Mathlib.Omega.{arith}
use lib.ListN.{length}
use Rattle.house.specs.Limits.{field_for, mark_field}
use Rattle.house.proofs.Forms.{beside_within}
use Rattle.packer.specs.Layout.{record_at}
use Rattle.packer.proofs.Puts.{worst_none, worst_one}
use Rattle.packer.proofs.records.put_worst.Goals as goal

pub returns-in_default : goal.returns-in_default
returns-in_default c = let a = c.args in worst_none a.out.now a.at a.form _ _ c.in_default.is

pub record_at-requires : goal.record_at-requires
record_at-requires c = omega (arith, c.requires.0)

pub overflow_add-place : goal.overflow_add-place
overflow_add-place c = let a = c.args in omega (arith, beside_within a.form (field_for a.n), c.mark_field.ensures, ap mark_field c.field_for-field.ensures, c.requires.0)

pub overflow_add-place-2 : goal.overflow_add-place-2
overflow_add-place-2 c = let a = c.args in omega (arith, beside_within a.form (field_for a.n), c.mark_field.ensures, ap mark_field c.field_for-field.ensures, c.record_at.ensures, c.requires.0)

pub mark_number-requires : goal.mark_number-requires
mark_number-requires c = let a = c.args in omega (arith, beside_within a.form (field_for a.n), c.mark_field.ensures, ap mark_field c.field_for-field.ensures, c.record_at.ensures, c.requires.0)

pub put_four-requires : goal.put_four-requires
put_four-requires c =
    let room : c.args.at + 4 ≤ length c.args.out.now = let h = rw c.in-Nine.is at c.requires.1 in omega arith in
    omega (arith, room)

pub returns : goal.returns
returns c = let a = c.args in c.put_four.ensures ∙ rw (c.mark_number.ensures.0, c.record_at.ensures, c.mark_field.ensures, c.field_for-field.ensures) (worst_one a.out.now a.at a.form (mark_field (field_for a.n)) (record_at a.form a.n a.i + (6 + mark_field (field_for a.n))) a.file.now c.in-Nine.is)
