-- `house::bytes::put_words` meets its contract. After i turns the first i numbers are put.
use mathlib.Core.Path.{refl, ◌∙◌}
use Prim.Native.Nat.{◌<◌}
use native.Mathlib.Omega.{arith}
use lib.ListN.{length}
use Rattle.house.specs.Bytes.{row_bytes}
use Rattle.house.proofs.Turns.{words-put}
use Rattle.house.proofs.bytes.put_words.Goals as goal

pub loop-i-init : goal.loop-i-init
unfolding row_bytes
loop-i-init c = refl

pub loop-i-preserved : goal.loop-i-preserved
loop-i-preserved c =
    let l = c.loop-i in
    let a = c.args in
    let h : l.i < length a.xs.now = omega arith in
    c.put_eight.ensures ∙ rw l.invariant (words-put a.out.now a.xs.now a.at l.i h)
