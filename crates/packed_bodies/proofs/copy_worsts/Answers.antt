-- `packed_bodies::copy_worsts` meets its contract. After i turns the worst marks of the first i curves stand in front.
use Prim.Native.Nat.{◌+◌, ◌*◌, ◌<◌, ◌≤◌}
use native.Mathlib.Omega.{arith}
use Rattle.form.specs.Form.{worsts_for}
use Rattle.house.proofs.Forms.{worsts-few}
use Rattle.packed.specs.Packed.{rest_numbers}
use Rattle.packed.specs.Unpacked.{entry_at, worst_place}
use Rattle.packed.proofs.Sizes.{rest-few}
use Rattle.packed_bodies.proofs.Turns.{inside, front_none, marks-turn, worst_at_is, worst_within, worsts_all}
use Rattle.packed_bodies.proofs.copy_worsts.Goals as goal

pub overflow_mul-behind : goal.overflow_mul-behind
overflow_mul-behind c = omega (arith, c.rest_numbers.ensures, rest-few c.args.form)

pub overflow_add-behind : goal.overflow_add-behind
overflow_add-behind c = omega (arith, c.rest_numbers.ensures, rest-few c.args.form)

pub loop-i-init : goal.loop-i-init
loop-i-init c = front_none _ _

pub entry_at-requires : goal.entry_at-requires
entry_at-requires c =
    let kept : let a = c.args in c.loop-i.i < worsts_for a.form a.k = omega (arith, c.worsts_for-kept.ensures) in
    let here : let a = c.args in entry_at a.form a.n c.loop-i.i + (4 + 8 * rest_numbers a.form + 4) ≤ entry_at a.form a.n a.k = let a = c.args in
    let h : c.loop-i.i < a.k = omega (arith, kept, worsts-few a.form a.k) in
    omega (arith, inside a.form a.n a.k c.loop-i.i h, worst_within a.form a.k c.loop-i.i kept) in
    omega (arith, here)

pub overflow_add-entry_at : goal.overflow_add-entry_at
overflow_add-entry_at c =
    let kept : let a = c.args in c.loop-i.i < worsts_for a.form a.k = omega (arith, c.worsts_for-kept.ensures) in
    let here : let a = c.args in entry_at a.form a.n c.loop-i.i + (4 + 8 * rest_numbers a.form + 4) ≤ entry_at a.form a.n a.k = let a = c.args in
    let h : c.loop-i.i < a.k = omega (arith, kept, worsts-few a.form a.k) in
    omega (arith, inside a.form a.n a.k c.loop-i.i h, worst_within a.form a.k c.loop-i.i kept) in
    omega (arith, here, c.entry_at.ensures, c.rest_numbers.ensures)

pub four-requires : goal.four-requires
four-requires c =
    let kept : let a = c.args in c.loop-i.i < worsts_for a.form a.k = omega (arith, c.worsts_for-kept.ensures) in
    let here : let a = c.args in entry_at a.form a.n c.loop-i.i + (4 + 8 * rest_numbers a.form + 4) ≤ entry_at a.form a.n a.k = let a = c.args in
    let h : c.loop-i.i < a.k = omega (arith, kept, worsts-few a.form a.k) in
    omega (arith, inside a.form a.n a.k c.loop-i.i h, worst_within a.form a.k c.loop-i.i kept) in
    omega (arith, here, c.entry_at.ensures, c.rest_numbers.ensures)

pub bounds-worsts-i : goal.bounds-worsts-i
bounds-worsts-i c =
    let kept : let a = c.args in c.loop-i.i < worsts_for a.form a.k = omega (arith, c.worsts_for-kept.ensures) in
    omega (arith, kept, c.loop-i.invariant.same)

pub loop-i-preserved : goal.loop-i-preserved
loop-i-preserved c =
    let kept : let a = c.args in c.loop-i.i < worsts_for a.form a.k = omega (arith, c.worsts_for-kept.ensures) in
    let a = c.args in marks-turn a.b.now (worst_place a.form a.n) a.worsts.now c.loop-i.worsts c.loop-i.i c.four.ensures.0 (worst_at_is a.form a.n c.loop-i.i c.entry_at.ensures c.rest_numbers.ensures) (omega (arith, kept)) c.loop-i.invariant

pub returns : goal.returns
returns c = let a = c.args in worsts_all a.b.now a.form a.n a.k a.worsts.now c.loop-i.worsts c.loop-i.i (omega (arith, c.worsts_for-kept.ensures)) c.loop-i.invariant
