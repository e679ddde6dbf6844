-- `parts::start_in` meets its contract.
use native.Mathlib.Omega.{arith}
use mathlib.Core.Path.{sym, ◌∙◌}
use Rattle.float.proofs.Refusals.{handed_on}
use Rattle.parts.specs.Headings.{marks_in, own_start}
use Rattle.parts.proofs.Headings.{at_outer, cut_closed, cut_lost, cut_found}
use Rattle.parts.proofs.start_in.Goals as goal

pub returns-then-is_outer : goal.returns-then-is_outer
returns-then-is_outer c =
    let a = c.args in
    at_outer (λ w. w.start) (own_start a.heading (marks_in a.heading a.marks.now) a.n a.at) (marks_in a.heading a.marks.now) a.n a.size a.at (sym c.is_outer.ensures ∙ c.if-is_outer.true) _ c.own_start.ensures

pub ways_round-requires : goal.ways_round-requires
ways_round-requires c =
    let a = c.args in
    let p = c.requires in
    cut_closed a.heading a.marks.now a.n a.size a.at p.size_nonzero.0 p.size_nonzero.1 (omega (arith, p)) _ c.is_outer.ensures c.if-is_outer.false

pub returns-in_err-ways : goal.returns-in_err-ways
returns-in_err-ways c =
    let a = c.args in
    let p = c.requires in
    handed_on _ _ c.from_residual.ensures.1
    ∙ cut_lost a.heading a.marks.now a.n a.size a.at p.size_nonzero.0 p.size_nonzero.1 (omega (arith, p)) _ c.is_outer.ensures c.if-is_outer.false (λ w. w.start) (own_start a.heading (marks_in a.heading a.marks.now) a.n a.at) _ c.in_err-ways.ensures

pub returns : goal.returns
returns c =
    let a = c.args in
    let p = c.requires in
    cut_found a.heading a.marks.now a.n a.size a.at p.size_nonzero.0 p.size_nonzero.1 (omega (arith, p)) _ c.is_outer.ensures c.if-is_outer.false (λ w. w.start) (own_start a.heading (marks_in a.heading a.marks.now) a.n a.at) _ c.in_ok-ways.ensures
