-- `checker::check_marks` meets its contract.
use native.Mathlib.Omega.{arith}
use mathlib.Core.Path.{refl}
use Rattle.faults.specs.Tests.{farther}
use Rattle.checker.specs.Check.{in_turn}
use Rattle.checker.proofs.Under.{fault_c, fault_d, faultless}
use Rattle.checker.proofs.check_marks.Goals as goal

pub loop-i-init : goal.loop-i-init
unfolding in_turn farther
loop-i-init c = (omega arith, refl, refl)

pub returns-then-not-is_timed : goal.returns-then-not-is_timed
returns-then-not-is_timed c =
    let a = c.args in
    fault_c a.tolerance a.n a.j a.first a.from a.c a.under.now a.params.now _ c.loop-i.far c.loop-i.i c.loop-i.invariant c.loop-i-test.true c.is_timed.result c.is_timed.ensures c.if-not-is_timed.true

pub returns-then-not-is_near : goal.returns-then-not-is_near
returns-then-not-is_near c =
    let a = c.args in
    fault_d a.tolerance a.n a.j a.first a.from a.c a.under.now a.params.now _ c.loop-i.far c.loop-i.i c.loop-i.invariant c.loop-i-test.true c.is_timed.result c.is_timed.ensures c.if-not-is_timed.false c.error_at-square.result c.error_at-square.ensures c.is_near.result c.is_near.ensures c.if-not-is_near.true

pub loop-i-preserved : goal.loop-i-preserved
loop-i-preserved c =
    let a = c.args in
    faultless a.tolerance a.n a.j a.first a.from a.c a.under.now a.params.now _ c.loop-i.far c.loop-i.i c.loop-i.invariant c.loop-i-test.true c.is_timed.result c.is_timed.ensures c.if-not-is_timed.false c.error_at-square.result c.error_at-square.ensures c.is_near.result c.is_near.ensures c.if-not-is_near.false _ c.larger-far.ensures
