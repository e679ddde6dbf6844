-- `checker::List::check_all` meets its contract.
use Prim.Native.Nat.{ℕ, ◌+◌}
use native.Mathlib.Omega.{arith}
use mathlib.Core.Path.{ap, ◌∙◌}
use Rattle.marks.specs.Marks.{count}
use Rattle.checker.specs.Inner.{verdict}
use Rattle.checker.proofs.Turns.{halted}
use Rattle.checker.proofs.Lists.{gate-passed, by_firsts, held, by_curves}
use Rattle.checker.proofs.List.check_all.Goals as goal

pub check_firsts-requires : goal.check_firsts-requires
check_firsts-requires c =
    let a = c.args.self.now in
    let h = gate-passed a.outline a.form a.marks.now a.tolerance a.count a.curves.now a.firsts.now a.worsts.now a.params.now c.requires in
    let t = h.two in
    (h.firsts, omega (arith, c.again.ensures))

pub returns-in_err-check_firsts : goal.returns-in_err-check_firsts
returns-in_err-check_firsts c =
    let a = c.args.self.now in
    ap verdict (halted _ _ c.from_residual.ensures.1) ∙ by_firsts a.outline a.form a.marks.now a.tolerance a.count a.curves.now a.firsts.now a.worsts.now a.params.now c.requires _ (ap (λ (m : ℕ). m + count a.marks.now) c.again.ensures) _ c.in_err-check_firsts.ensures

pub check_curves-requires : goal.check_curves-requires
check_curves-requires c =
    let a = c.args.self.now in
    held a.outline a.form a.marks.now a.tolerance a.count a.curves.now a.firsts.now a.worsts.now a.params.now c.requires _ (ap (λ (m : ℕ). m + count a.marks.now) c.again.ensures) c.in_ok-check_firsts.ensures

pub returns : goal.returns
returns c =
    let a = c.args.self.now in
    by_curves a.outline a.form a.marks.now a.tolerance a.count a.curves.now a.firsts.now a.worsts.now a.params.now c.requires _ (ap (λ (m : ℕ). m + count a.marks.now) c.again.ensures) c.in_ok-check_firsts.ensures c.check_curves.ensures
