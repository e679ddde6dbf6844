-- `file_fit::copy_numbers` meets its contract. After i turns the first i numbers of the row stand in front.
use mathlib.Core.Path.{◌≡◌, refl}
use Prim.Native.Nat.{◌<◌}
use native.Mathlib.Omega.{arith}
use lib.ListN.{length, drop}
use Rattle.house.specs.Bytes.{row}
use Rattle.file_fit.proofs.Turns.{length-floats, floats-turn}
use Rattle.file_fit.proofs.copy_numbers.Goals as goal

pub loop-i-init : goal.loop-i-init
unfolding row
loop-i-init c = refl

pub eight-requires : goal.eight-requires
eight-requires c = omega arith

pub loop-i-preserved : goal.loop-i-preserved
loop-i-preserved c =
    let l = c.loop-i in
    let a = c.args in
    let h : l.i < length a.out.now = omega arith in
    rw (l.invariant, c.of_bits.ensures, c.eight.ensures) (floats-turn a.b.now a.at a.out.now l.i h)

pub returns : goal.returns
returns c =
    let l = c.loop-i in
    let a = c.args in
    let e : l.i ≡ a.n = omega arith in
    rw (length-floats a.n (drop a.at a.b.now)) (rw e at l.invariant)
