-- `export::all_meet` meets its contract.
use mathlib.Core.Path.{◌∙◌}
use Rattle.faults.specs.Tests.{curve_at}
use Rattle.export.proofs.Tests.{joined_by, no_curves, none_held, apart, around, straight}
use Rattle.export.proofs.all_meet.Goals as goal

pub returns-then-count-eq0 : goal.returns-then-count-eq0
returns-then-count-eq0 c =
    let a = c.args in
    let f = curve_at a.form a.curves.now in
    no_curves a.ring a.count a.held f c.if-count-eq0.true

pub returns-then-held-eq0 : goal.returns-then-held-eq0
returns-then-held-eq0 c =
    let a = c.args in
    let f = curve_at a.form a.curves.now in
    none_held a.ring a.count a.held f c.if-count-eq0.false c.if-held-eq0.true

pub returns-then-not-all_pass : goal.returns-then-not-all_pass
returns-then-not-all_pass c =
    let a = c.args in
    let f = curve_at a.form a.curves.now in
    apart a.ring a.count a.held f c.if-count-eq0.false (joined_by a.held f c.all_pass.ensures c.if-not-all_pass.true)

pub returns-then-ring-count : goal.returns-then-ring-count
returns-then-ring-count c =
    let a = c.args in
    let f = curve_at a.form a.curves.now in
    c.is_same.ensures ∙ rw (c.curve_at-first.ensures, c.curve_at-last.ensures) (around a.ring a.count a.held f c.if-count-eq0.false (joined_by a.held f c.all_pass.ensures c.if-not-all_pass.false) c.if-ring-count.true)

pub returns : goal.returns
returns c =
    let a = c.args in
    let f = curve_at a.form a.curves.now in
    straight a.ring a.count a.held f c.if-count-eq0.false (joined_by a.held f c.all_pass.ensures c.if-not-all_pass.false) c.if-ring-count.false
