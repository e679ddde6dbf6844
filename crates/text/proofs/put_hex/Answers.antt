-- `text::put_hex` meets its contract. Before the digit at i is put, those behind it are there.
use mathlib.Core.Path.{refl}
use Prim.Native.Nat.{◌<◌, ◌≤◌}
use native.Mathlib.Omega.{arith}
use Rattle.text.specs.Text.{hex}
use Rattle.text.proofs.Digits.{hex-turn, rest-turn}
use Rattle.text.proofs.put_hex.Goals as goal

pub loop-i-init : goal.loop-i-init
unfolding hex
loop-i-init c = (omega arith, refl)

pub loop-i-preserved : goal.loop-i-preserved
loop-i-preserved c =
    let l = c.loop-i in
    let a = c.args in
    let h : 0 < l.i = omega arith in
    let k : l.i ≤ 16 = omega arith in (
      rw l.invariant.0 (rest-turn a.x l.i h k),
      rw (c.digit.ensures, l.invariant.0, l.invariant.1) (hex-turn a.out.now a.at a.x l.i h k),
    )
