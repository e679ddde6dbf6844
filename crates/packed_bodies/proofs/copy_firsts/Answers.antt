-- `packed_bodies::copy_firsts` meets its contract. After i turns the first marks of the first i curves stand in front.
use Prim.Native.Nat.{◌+◌, ◌≤◌}
use native.Mathlib.Omega.{arith}
use Rattle.packed.specs.Packed.{entry_bytes}
use Rattle.packed.specs.Unpacked.{entry_at, first_place}
use Rattle.packed.proofs.Places.{first_before}
use Rattle.packed_bodies.proofs.Turns.{inside, front_none, marks-turn, marks_all}
use Rattle.packed_bodies.proofs.copy_firsts.Goals as goal

pub loop-i-init : goal.loop-i-init
loop-i-init c = front_none _ _

pub first_place-requires : goal.first_place-requires
first_place-requires c =
    let here : let a = c.args in entry_at a.form a.n c.loop-i.i + entry_bytes a.form ≤ entry_at a.form a.n a.k = let a = c.args in inside a.form a.n a.k c.loop-i.i (omega arith) in
    omega (arith, here)

pub four-requires : goal.four-requires
four-requires c =
    let here : let a = c.args in entry_at a.form a.n c.loop-i.i + entry_bytes a.form ≤ entry_at a.form a.n a.k = let a = c.args in inside a.form a.n a.k c.loop-i.i (omega arith) in
    let a = c.args in omega (arith, here, c.first_place.ensures, first_before a.form a.n c.loop-i.i)

pub bounds-firsts-i : goal.bounds-firsts-i
bounds-firsts-i c = omega (arith, c.loop-i.invariant.same)

pub loop-i-preserved : goal.loop-i-preserved
loop-i-preserved c = let a = c.args in marks-turn a.b.now (first_place a.form a.n) a.firsts.now c.loop-i.firsts c.loop-i.i c.four.ensures.0 c.first_place.ensures (omega arith) c.loop-i.invariant

pub returns : goal.returns
returns c = let a = c.args in marks_all a.b.now (first_place a.form a.n) a.firsts.now c.loop-i.firsts c.loop-i.i a.k (omega arith) c.loop-i.invariant
