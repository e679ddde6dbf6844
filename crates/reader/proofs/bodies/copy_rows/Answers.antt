-- `reader::bodies::copy_rows` meets its contract. After i turns the numbers of the first i records stand in front.
use mathlib.Core.Path.{◌≡◌, refl}
use Prim.Native.Nat.{◌+◌, ◌*◌, ◌≤◌}
use native.Mathlib.Nat.{mul-zero}
use native.Mathlib.Omega.{arith}
use lib.ListN.{length, drop, length-take, length-drop}
use Rattle.house.specs.Held.{in_each}
use Rattle.house.proofs.Forms.{within}
use Rattle.grammar.proofs.Curves.{length-each}
use Rattle.house.proofs.Turns.{same_front}
use Rattle.reader.proofs.Turns.{rows_put}
use Rattle.reader.proofs.bodies.copy_rows.Goals as goal
use Rattle.reader.proofs.bodies.copy_rows.Goals.{In-loop-i}

-- record i is within the bytes, and its numbers within the slice
under_of : (c : In-loop-i) → let a = c.args in a.n * c.loop-i.i + a.n ≤ a.n * a.k
under_of c = let a = c.args in within a.n a.k c.loop-i.i (omega arith)

inside_of : (c : In-loop-i) → let a = c.args in a.step * c.loop-i.i + a.step ≤ a.step * a.k
inside_of c = let a = c.args in within a.step a.k c.loop-i.i (omega arith)

pub loop-i-init : goal.loop-i-init
unfolding in_each
loop-i-init c = let a = c.args in (record { whole = rw (mul-zero a.n); same = refl })

pub overflow_mul-j : goal.overflow_mul-j
overflow_mul-j c =
    let under = under_of (goal.at.overflow_mul-j c).In-loop-i in
    omega (arith, under)

pub overflow_mul-step : goal.overflow_mul-step
overflow_mul-step c =
    let inside = inside_of (goal.at.overflow_mul-step c).In-loop-i in
    omega (arith, inside)

pub overflow_add-at : goal.overflow_add-at
overflow_add-at c =
    let inside = inside_of (goal.at.overflow_add-at c).In-loop-i in
    omega (arith, inside)

pub overflow_add-at-in-loop-i : goal.overflow_add-at-in-loop-i
overflow_add-at-in-loop-i c =
    let inside = inside_of (goal.at.overflow_add-at-in-loop-i c).In-loop-i in
    omega (arith, inside)

pub copy_words-requires : goal.copy_words-requires
copy_words-requires c =
    let inside = inside_of (goal.at.copy_words-requires c).In-loop-i in
    let under = under_of (goal.at.copy_words-requires c).In-loop-i in
    (omega (arith, inside), simp (length-take, length-drop) (omega (arith, under, c.loop-i.invariant.same)))

pub loop-i-preserved : goal.loop-i-preserved
loop-i-preserved c =
    let under = under_of (goal.at.loop-i-preserved c).In-loop-i in
    let l = c.loop-i in
    let a = c.args in
    let d = drop a.at a.b.now in
    let g : a.n * (l.i + 1) ≤ length a.out.now = omega (arith, under) in
    let m : a.n * l.i ≤ length l.out = omega (arith, under, l.invariant.same) in
    let e = rows_put a.b.now a.at a.p a.step a.n a.out.now l.out c.copy_words.new.out l.i l.invariant.whole m c.copy_words.ensures in
    (same_front (in_each 8 a.n a.p a.step (l.i + 1) d) a.out.now _ (a.n * (l.i + 1)) e (length-each 8 a.n a.p a.step (l.i + 1) d) g)

pub returns : goal.returns
returns c =
    let l = c.loop-i in
    let a = c.args in
    let e : l.i ≡ a.k = omega arith in
    rw (length-each 8 a.n a.p a.step a.k (drop a.at a.b.now)) (rw e at l.invariant.whole)
