-- `checker::List::check_curves` meets its contract.
use native.Mathlib.Omega.{arith}
use mathlib.Core.Path.{refl, ap, ◌∙◌}
use Rattle.ring.specs.Ring.{whole}
use Rattle.checker.specs.Check.{in_turn}
use Rattle.checker.specs.Inner.{verdict}
use Rattle.checker.proofs.Turns.{halted}
use Rattle.checker.proofs.Lists.{faultless, halt}
use Rattle.checker.proofs.List.check_curves.Goals as goal

pub loop-j-init : goal.loop-j-init
unfolding in_turn
loop-j-init c = (omega arith, refl)

pub returns-in_err-check_curve : goal.returns-in_err-check_curve
returns-in_err-check_curve c =
    let a = c.args.self.now in
    ap verdict (halted _ _ c.from_residual.ensures.1) ∙ halt a.form (whole a.outline a.marks.now) a.tolerance a.count a.curves.now a.firsts.now a.worsts.now a.params.now c.loop-j.j c.loop-j.invariant c.loop-j-test.true _ c.in_err-check_curve.ensures

pub loop-j-preserved : goal.loop-j-preserved
loop-j-preserved c =
    let a = c.args.self.now in
    faultless a.form (whole a.outline a.marks.now) a.tolerance a.count a.curves.now a.firsts.now a.worsts.now a.params.now c.loop-j.j c.loop-j.invariant c.loop-j-test.true c.in_ok-check_curve.ensures
