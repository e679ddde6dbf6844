-- `text::put_bytes` meets its contract.
use mathlib.Core.Path.{refl}
use Prim.Native.Nat.{◌<◌}
use native.Mathlib.Omega.{arith}
use lib.ListN.{length, length-set}
use lib.Seq.{take_all}
use Rattle.text.proofs.Stores.{sets-suc}
use Rattle.text.proofs.put_bytes.Goals as goal

pub loop-i-init : goal.loop-i-init
loop-i-init c = (omega arith, (refl, refl))

pub loop-i-preserved : goal.loop-i-preserved
loop-i-preserved c =
    let l = c.loop-i in
    let a = c.args in
    let h : l.i < length a.text.now = omega arith in
    (omega arith, (rw l.invariant.1.0 (sets-suc a.out.now a.text.now a.at l.i h), simp length-set l.invariant.1.1))

pub returns : goal.returns
returns c =
    let l = c.loop-i in
    let t = c.args.text.now in
    (refl, rw (take_all l.i t (omega arith)) at l.invariant.1.0)
