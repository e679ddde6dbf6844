-- `unpacker::records::put_beside` meets its contract.
use mathlib.Core.Path.{◌∙◌}
use Prim.Native.Nat.{◌+◌, ◌≤◌}
use native.Mathlib.Omega.{arith}
use lib.ListN.{length}
use Rattle.house.specs.Limits.{mark_field}
use Rattle.packed.proofs.Places.{first_before}
use Rattle.unpacker.proofs.Pieces.{beside_one, beside_two, worst_within}
use Rattle.unpacker.proofs.records.put_beside.Goals as goal

pub four-requires : goal.four-requires
four-requires c = omega (arith, c.first_place.ensures, first_before c.args.form c.args.n c.args.i, c.requires.0)

pub returns-in_default : goal.returns-in_default
returns-in_default c = let a = c.args in c.put_mark.ensures ∙ rw (c.four.ensures.0, c.first_place.ensures) (beside_one (mark_field a.field) a.out.now a.at _ a.file.now a.form a.n a.i c.in_default.is)

pub four-requires-2 : goal.four-requires-2
four-requires-2 c = let a = c.args in omega (arith, c.entry_at.ensures, c.rest_numbers.ensures, worst_within a.form a.n a.i c.in-Nine.is, c.requires.0)

pub put_mark-requires-2 : goal.put_mark-requires-2
put_mark-requires-2 c =
    let both : let a = c.args in a.at + mark_field a.field + mark_field a.field ≤ length a.out.now = let h = rw c.in-Nine.is at c.requires.1 in omega arith in
    omega (arith, c.mark_field.ensures, both)

pub returns : goal.returns
returns c = let a = c.args in c.put_mark-2.ensures ∙ rw (c.four-2.ensures.0, c.put_mark.ensures, c.four.ensures.0, c.first_place.ensures, c.mark_field.ensures, c.entry_at.ensures, c.rest_numbers.ensures) (beside_two (mark_field a.field) a.out.now a.at _ a.file.now a.form a.n a.i c.in-Nine.is)
