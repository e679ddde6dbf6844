-- `reader::bodies::copy_marks` meets its contract. After i turns the mark numbers of the first i records stand in front.
use mathlib.Core.Path.{◌≡◌, refl, ◌∙◌}
use mathlib.Core.List.{◌++◌}
use Prim.Native.Nat.{◌+◌, ◌*◌, ◌≤◌}
use native.Mathlib.Omega.{arith}
use lib.ListN.{length, drop, set}
use Rattle.house.specs.Limits.{mark_field}
use Rattle.house.specs.Held.{in_each}
use Rattle.house.proofs.Forms.{within}
use Rattle.grammar.proofs.Curves.{length-each}
use Rattle.house.proofs.Turns.{same_front}
use Rattle.reader.proofs.Turns.{marks-turn}
use Rattle.reader.proofs.bodies.copy_marks.Goals as goal
use Rattle.reader.proofs.bodies.copy_marks.Goals.{In-loop-i}

-- record i is within the bytes
inside_of : (c : In-loop-i) → let a = c.args in a.step * c.loop-i.i + a.step ≤ a.step * a.k
inside_of c = let a = c.args in within a.step a.k c.loop-i.i (omega arith)

pub loop-i-init : goal.loop-i-init
unfolding in_each
loop-i-init c = (record { whole = refl; same = refl })

pub overflow_mul-step : goal.overflow_mul-step
overflow_mul-step c =
    let inside = inside_of (goal.at.overflow_mul-step c).In-loop-i in
    omega (arith, inside)

pub overflow_add-at : goal.overflow_add-at
overflow_add-at c =
    let inside = inside_of (goal.at.overflow_add-at c).In-loop-i in
    omega (arith, inside)

pub overflow_add-at-in-loop-i : goal.overflow_add-at-in-loop-i
overflow_add-at-in-loop-i c =
    let inside = inside_of (goal.at.overflow_add-at-in-loop-i c).In-loop-i in
    omega (arith, inside)

pub mark_number-requires : goal.mark_number-requires
mark_number-requires c =
    let inside = inside_of (goal.at.mark_number-requires c).In-loop-i in
    omega (arith, inside)

pub bounds-out-i : goal.bounds-out-i
bounds-out-i c = omega (arith, c.loop-i.invariant.same)

pub loop-i-preserved : goal.loop-i-preserved
loop-i-preserved c =
    let l = c.loop-i in
    let a = c.args in
    let d = drop a.at a.b.now in
    let f = mark_field a.field in
    let e : set l.out l.i c.mark_number.result ≡ in_each f 1 a.p a.step (l.i + 1) d ++ drop (l.i + 1) a.out.now =
    rw (l.invariant.whole, c.mark_number.ensures.0) (marks-turn a.b.now a.at a.p a.step f a.out.now l.i (omega arith)) in
    (same_front (in_each f 1 a.p a.step (l.i + 1) d) a.out.now _ (l.i + 1) e (length-each f 1 a.p a.step (l.i + 1) d ∙ omega arith) (omega arith))

pub returns : goal.returns
returns c =
    let l = c.loop-i in
    let a = c.args in
    let e : l.i ≡ a.k = omega arith in
    let f = mark_field a.field in
    let z : length (in_each f 1 a.p a.step a.k (drop a.at a.b.now)) ≡ a.k = length-each f 1 a.p a.step a.k (drop a.at a.b.now) ∙ omega arith in
    rw z (rw e at l.invariant.whole)
