-- `writer::records::put_beside` meets its contract.
use mathlib.Core.Path.{◌∙◌}
use Prim.Native.Nat.{◌+◌, ◌<◌, ◌≤◌}
use native.Mathlib.Omega.{arith}
use lib.ListN.{length}
use Rattle.house.specs.Limits.{mark_field}
use Rattle.house.proofs.Forms.{field_within}
use Rattle.writer.proofs.Turns.{beside_one, beside_two}
use Rattle.writer.proofs.records.put_beside.Goals as goal

pub overflow_cast-firsts : goal.overflow_cast-firsts
overflow_cast-firsts c = omega (arith, c.shared_slice_known-3-1.given c.args.i)

pub put_mark-requires : goal.put_mark-requires
put_mark-requires c = let a = c.args in omega (arith, field_within a.form a.field, c.requires.0)

pub returns-in_default : goal.returns-in_default
returns-in_default c = let a = c.args in c.put_mark.ensures ∙ beside_one (mark_field a.field) a.out.now a.at a.form _ a.i a.worsts.now c.in_default.is

pub overflow_add-at : goal.overflow_add-at
overflow_add-at c =
    let both : let a = c.args in a.at + mark_field a.field + mark_field a.field ≤ length a.out.now = let h = rw c.in-Nine.is at c.requires.0 in omega arith in
    omega (arith, c.mark_field.ensures, both)

pub bounds-worsts-i : goal.bounds-worsts-i
bounds-worsts-i c =
    let kept : let a = c.args in a.i < length a.worsts.now = let h = rw c.in-Nine.is at c.requires.1.1 in omega arith in
    omega (arith, kept)

pub overflow_cast-worsts : goal.overflow_cast-worsts
overflow_cast-worsts c = omega (arith, c.shared_slice_known-4-1.given c.args.i)

pub put_mark-requires-2 : goal.put_mark-requires-2
put_mark-requires-2 c =
    let both : let a = c.args in a.at + mark_field a.field + mark_field a.field ≤ length a.out.now = let h = rw c.in-Nine.is at c.requires.0 in omega arith in
    omega (arith, c.mark_field.ensures, both)

pub returns : goal.returns
returns c =
    let kept : let a = c.args in a.i < length a.worsts.now = let h = rw c.in-Nine.is at c.requires.1.1 in omega arith in
    let a = c.args in
    c.put_mark-2.ensures ∙ rw (c.put_mark.ensures, c.mark_field.ensures) (beside_two (mark_field a.field) a.out.now a.at a.form _ a.i a.worsts.now c.in-Nine.is kept)
