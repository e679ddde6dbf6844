-- `desk::copy_floats` meets its contract. After i turns the first i stand in front.
use mathlib.Core.Path.{refl, ◌∙◌}
use native.Mathlib.Omega.{arith}
use lib.Ieee.{nan, binary64, of_bits}
use Rattle.desk.proofs.Turns.{map-turn, map_all}
use Rattle.desk.proofs.copy_floats.Goals as goal

pub loop-i-init : goal.loop-i-init
loop-i-init c = refl

pub loop-i-preserved : goal.loop-i-preserved
loop-i-preserved c =
    let l = c.loop-i in
    let a = c.args in
    rw (l.invariant, c.of_bits.ensures) (map-turn (of_bits binary64) a.xs.now a.out.now l.i 0 nan (omega arith) (omega arith))

pub returns : goal.returns
returns c =
    let l = c.loop-i in
    let a = c.args in
    l.invariant ∙ map_all (of_bits binary64) a.xs.now a.out.now l.i (omega arith) (omega arith)
