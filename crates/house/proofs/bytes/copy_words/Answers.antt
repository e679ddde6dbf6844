-- `house::bytes::copy_words` meets its contract. After i turns the first i numbers of the row stand in front.
use mathlib.Core.Path.{refl}
use Prim.Native.Nat.{◌<◌}
use native.Mathlib.Omega.{arith}
use lib.ListN.{length}
use Rattle.house.specs.Bytes.{row}
use Rattle.house.proofs.Turns.{words-turn}
use Rattle.house.proofs.bytes.copy_words.Goals as goal

pub loop-i-init : goal.loop-i-init
unfolding row
loop-i-init c = refl

pub loop-i-preserved : goal.loop-i-preserved
loop-i-preserved c =
    let l = c.loop-i in
    let a = c.args in
    let h : l.i < length a.out.now = omega arith in
    rw (l.invariant, c.eight.ensures) (words-turn a.b.now a.at a.out.now l.i h)
