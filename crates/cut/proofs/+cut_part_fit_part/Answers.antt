-- The cycle {cut_part, fit_part} keeps its promises. Each answer hands what is known at its place to one law of Cut: K is cut_part's call,
-- H what is known once the left side is done, R what the right side answered.
use native.Mathlib.Omega.{arith}
use mathlib.Core.Path.{sym, ap, ◌∙◌}
use Rattle.std.specs.Prelude.{Err}
use Rattle.float.proofs.Answers.{only_six}
use Rattle.float.specs.declared.refusal.Refusal.TheVariants.{NotFinite}
use Rattle.cut.proofs.Cut as laws
use Rattle.cut.proofs.+cut_part_fit_part.Goals as goal

pub cut_part-returns-in_default : goal.cut_part-returns-in_default
cut_part-returns-in_default t c =
    let K = laws.call c.args.at c.args.start c.args.end c.requires.ready c.requires.at_nonzero in
    laws.cut_refused K NotFinite _ _ _ _ (only_six _ _ c.in_default.ensures)

pub cut_part-fit_part-left-requires : goal.cut_part-fit_part-left-requires
cut_part-fit_part-left-requires t c =
    let K = laws.call c.args.at c.args.start c.args.end c.requires.ready c.requires.at_nonzero in
    (omega (arith, laws.less_left K, c.decreases), laws.ready_left K)

pub cut_part-overflow_mul-behind : goal.cut_part-overflow_mul-behind
cut_part-overflow_mul-behind t c =
    let K = laws.call c.args.at c.args.start c.args.end c.requires.ready c.requires.at_nonzero in
    let l = c.fit_part-left in
    let H = laws.half K (sym c.in-Ok.ensures) _ _ _ _ l.ensures c.in-Ok-left.is l.auto.curves l.auto.firsts l.auto.worsts l.auto.params in
    let n = laws.numbers K H in
    omega (arith, n)

pub cut_part-offset_bounds-curves-behind : goal.cut_part-offset_bounds-curves-behind
cut_part-offset_bounds-curves-behind t c =
    let K = laws.call c.args.at c.args.start c.args.end c.requires.ready c.requires.at_nonzero in
    let l = c.fit_part-left in
    let H = laws.half K (sym c.in-Ok.ensures) _ _ _ _ l.ensures c.in-Ok-left.is l.auto.curves l.auto.firsts l.auto.worsts l.auto.params in
    let n = laws.numbers K H in
    omega (arith, n)

pub cut_part-slice_bounds-fit_part-count-2 : goal.cut_part-slice_bounds-fit_part-count-2
cut_part-slice_bounds-fit_part-count-2 t c =
    let K = laws.call c.args.at c.args.start c.args.end c.requires.ready c.requires.at_nonzero in
    let l = c.fit_part-left in
    let H = laws.half K (sym c.in-Ok.ensures) _ _ _ _ l.ensures c.in-Ok-left.is l.auto.curves l.auto.firsts l.auto.worsts l.auto.params in
    let n = laws.numbers K H in
    omega (arith, n)

pub cut_part-slice_bounds-fit_part-start-2 : goal.cut_part-slice_bounds-fit_part-start-2
cut_part-slice_bounds-fit_part-start-2 t c =
    let K = laws.call c.args.at c.args.start c.args.end c.requires.ready c.requires.at_nonzero in
    let l = c.fit_part-left in
    let H = laws.half K (sym c.in-Ok.ensures) _ _ _ _ l.ensures c.in-Ok-left.is l.auto.curves l.auto.firsts l.auto.worsts l.auto.params in
    let n = laws.numbers K H in
    omega (arith, n)

pub cut_part-fit_part-right-requires : goal.cut_part-fit_part-right-requires
cut_part-fit_part-right-requires t c =
    let K = laws.call c.args.at c.args.start c.args.end c.requires.ready c.requires.at_nonzero in
    let l = c.fit_part-left in
    let H = laws.half K (sym c.in-Ok.ensures) _ _ _ _ l.ensures c.in-Ok-left.is l.auto.curves l.auto.firsts l.auto.worsts l.auto.params in
    (omega (arith, laws.less_right K H, c.decreases), laws.ready_right K H)

pub cut_part-returns-in_default-right : goal.cut_part-returns-in_default-right
cut_part-returns-in_default-right t c =
    let K = laws.call c.args.at c.args.start c.args.end c.requires.ready c.requires.at_nonzero in
    let l = c.fit_part-left in
    let H = laws.half K (sym c.in-Ok.ensures) _ _ _ _ l.ensures c.in-Ok-left.is l.auto.curves l.auto.firsts l.auto.worsts l.auto.params in
    let f = c.fit_part-right in
    let R = laws.right K H _ _ _ _ _ f.ensures in
    laws.cut_stops_right K H R c.in_default-right.field-0 _ _ _ _ c.in_default-right.is

pub cut_part-returns : goal.cut_part-returns
cut_part-returns t c =
    let K = laws.call c.args.at c.args.start c.args.end c.requires.ready c.requires.at_nonzero in
    let l = c.fit_part-left in
    let H = laws.half K (sym c.in-Ok.ensures) _ _ _ _ l.ensures c.in-Ok-left.is l.auto.curves l.auto.firsts l.auto.worsts l.auto.params in
    let f = c.fit_part-right in
    let R = laws.right K H _ _ _ _ _ f.ensures in
    laws.cut_done K H R c.in-Ok-right.k c.in-Ok-right.is

pub fit_part-overflow_add-worst : goal.fit_part-overflow_add-worst
fit_part-overflow_add-worst t c =
    let a = c.args in
    let y = c.try_part in
    let within = laws.worst_within a.marks.now a.first a.start a.end a.tolerance (omega arith) c.requires.usable y.result y.new.params y.ensures c.in-Ok.s c.in-Ok.is in
    omega arith

pub fit_part-overflow_cast-worsts : goal.fit_part-overflow_cast-worsts
fit_part-overflow_cast-worsts t c =
    let a = c.args in
    let y = c.try_part in
    let within = laws.worst_within a.marks.now a.first a.start a.end a.tolerance (omega arith) c.requires.usable y.result y.new.params y.ensures c.in-Ok.s c.in-Ok.is in
    omega arith

pub fit_part-cut_part-requires : goal.fit_part-cut_part-requires
fit_part-cut_part-requires t c =
    let a = c.args in
    let y = c.try_part in
    let q = laws.cut_asks a.marks.now a.first a.start a.end a.tolerance a.curves.now a.firsts.now a.worsts.now a.params.now y.new.params y.result c.in-Err-Cut.at c.requires y.auto.params y.ensures (c.in-Err-Cut.is ∙ ap Err c.in-Err-Cut.field-0-is) in
    (omega (arith, c.decreases), q)

pub fit_part-returns-in-Ok : goal.fit_part-returns-in-Ok
fit_part-returns-in-Ok t c =
    let a = c.args in
    let y = c.try_part in
    laws.fit_good a.marks.now a.first a.start a.end a.tolerance (omega arith) c.requires.usable y.result y.new.params y.ensures c.in-Ok.s a.curves.now c.put_record.new.curves a.firsts.now _ a.worsts.now _ c.in-Ok.is c.put_record.ensures (laws.set_first _ a.firsts.now (omega arith)) (laws.set_first _ a.worsts.now (omega arith))

pub fit_part-returns-in-Err-Cut : goal.fit_part-returns-in-Err-Cut
fit_part-returns-in-Err-Cut t c =
    let a = c.args in
    let y = c.try_part in
    let u = c.cut_part in
    laws.fit_cut a.marks.now a.first a.start a.end a.tolerance (omega arith) c.requires.usable y.result y.new.params y.ensures c.in-Err-Cut.at u.result a.curves.now u.new.curves a.firsts.now u.new.firsts a.worsts.now u.new.worsts u.new.params (c.in-Err-Cut.is ∙ ap Err c.in-Err-Cut.field-0-is) u.ensures

pub fit_part-returns-in-Err-Refused : goal.fit_part-returns-in-Err-Refused
fit_part-returns-in-Err-Refused t c =
    let a = c.args in
    let y = c.try_part in
    laws.fit_refused a.marks.now a.first a.start a.end a.tolerance (omega arith) c.requires.usable y.result y.new.params y.ensures c.in-Err-Refused.q a.curves.now _ a.firsts.now _ a.worsts.now _ _ (c.in-Err-Refused.is ∙ ap Err c.in-Err-Refused.field-0-is)
