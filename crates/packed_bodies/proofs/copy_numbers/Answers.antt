-- `packed_bodies::copy_numbers` meets its contract. After i turns the numbers of the first i curves stand in front.
use mathlib.Core.Path.{◌≡◌, ap}
use Prim.Native.Nat.{ℕ, ◌+◌, ◌*◌, ◌≤◌}
use native.Mathlib.Omega.{arith}
use lib.ListN.{length-take, length-drop}
use Rattle.form.specs.Form.{width}
use Rattle.house.proofs.Forms.{within}
use Rattle.packed.specs.Packed.{entry_bytes}
use Rattle.packed.specs.Unpacked.{entry_at}
use Rattle.packed_bodies.proofs.Turns.{inside, numbers_none, numbers-turn, numbers_all}
use Rattle.packed_bodies.proofs.copy_numbers.Goals as goal

pub loop-i-init : goal.loop-i-init
loop-i-init c = numbers_none _ _ _ _

pub overflow_mul-j : goal.overflow_mul-j
overflow_mul-j c =
    let under : let a = c.args in width a.form * c.loop-i.i + width a.form ≤ width a.form * a.k = let a = c.args in within (width a.form) a.k c.loop-i.i (omega arith) in
    let from : c.width-step.result * c.loop-i.i ≡ width c.args.form * c.loop-i.i = ap (λ (x : ℕ). x * c.loop-i.i) c.width-step.ensures in
    omega (arith, under, from)

pub copy_curve-requires : goal.copy_curve-requires
copy_curve-requires c =
    let here : let a = c.args in entry_at a.form a.n c.loop-i.i + entry_bytes a.form ≤ entry_at a.form a.n a.k = let a = c.args in inside a.form a.n a.k c.loop-i.i (omega arith) in
    let under : let a = c.args in width a.form * c.loop-i.i + width a.form ≤ width a.form * a.k = let a = c.args in within (width a.form) a.k c.loop-i.i (omega arith) in
    let from : c.width-step.result * c.loop-i.i ≡ width c.args.form * c.loop-i.i = ap (λ (x : ℕ). x * c.loop-i.i) c.width-step.ensures in
    (omega (arith, here), simp (length-take, length-drop) (omega (arith, under, from, c.loop-i.invariant.same)))

pub loop-i-preserved : goal.loop-i-preserved
loop-i-preserved c =
    let under : let a = c.args in width a.form * c.loop-i.i + width a.form ≤ width a.form * a.k = let a = c.args in within (width a.form) a.k c.loop-i.i (omega arith) in
    let a = c.args in numbers-turn a.b.now a.form a.n a.curves.now c.loop-i.curves c.copy_curve.new.out c.loop-i.i c.width-step.ensures (omega (arith, under)) c.loop-i.invariant c.copy_curve.ensures

pub returns : goal.returns
returns c = let a = c.args in numbers_all a.b.now a.form a.n a.curves.now c.loop-i.curves c.loop-i.i a.k (omega arith) c.loop-i.invariant
