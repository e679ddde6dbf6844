-- `blocks::fit_marks`: a run over a part of the marks given, or over those with mark 0 behind them.
use native.Mathlib.Omega.{arith}
use mathlib.Core.Path.{sym}
use Rattle.blocks.proofs.Blocks.{same_marks, same_ready, all_given, to_the_end}
use Rattle.blocks.proofs.fit_marks.Goals as goal

pub fit_round-requires : goal.fit_round-requires
fit_round-requires c =
    let a = c.args in
    let p = c.requires in
    record { even = (p.even.0, (omega (arith, p, c.if-marks-tail), p.even.1.1.1)); ready = same_ready _ _ a.from _ _ _ _ _ (to_the_end a.marks.now a.from a.to p.even.0 (omega (arith, p)) (omega (arith, p, c.if-marks-tail))) p.ready }

pub returns-then-marks-tail : goal.returns-then-marks-tail
returns-then-marks-tail c =
    let a = c.args in
    let p = c.requires in
    same_marks _ _ a.from a.start a.end a.tolerance _ _ _ _ _ _ _ _ (sym (to_the_end a.marks.now a.from a.to p.even.0 (omega (arith, p)) (omega (arith, p, c.if-marks-tail)))) c.fit_round.ensures

pub fit_part-requires : goal.fit_part-requires
fit_part-requires c =
    let a = c.args in
    let p = c.requires in
    same_ready _ _ a.from _ _ _ _ _ (all_given a.marks.now a.from a.to p.even.0 (omega (arith, p)) c.if-marks-tail.false) p.ready

pub returns : goal.returns
returns c =
    let a = c.args in
    let p = c.requires in
    same_marks _ _ a.from a.start a.end a.tolerance _ _ _ _ _ _ _ _ (sym (all_given a.marks.now a.from a.to p.even.0 (omega (arith, p)) c.if-marks-tail.false)) c.fit_part.ensures
