-- `export::export_path` meets its contract.
use native.Mathlib.Omega.{arith}
use Rattle.export.proofs.Cases.{not_finite_is, too_large_is, apart, not_held, listed, too_short, put_whole}
use Rattle.export.proofs.export_path.Goals as goal

pub returns-then-not-all_pass : goal.returns-then-not-all_pass
returns-then-not-all_pass c =
    let a = c.args in
    not_finite_is a.form a.curves.now a.count a.ring a.out.now c.whole_in-held.ensures c.all_pass.ensures c.if-not-all_pass.true

pub returns-then-not-all_pass-2 : goal.returns-then-not-all_pass-2
returns-then-not-all_pass-2 c =
    let a = c.args in
    too_large_is a.form a.curves.now a.count a.ring a.out.now c.whole_in-held.ensures c.all_pass.ensures c.if-not-all_pass.false c.all_pass-2.ensures c.if-not-all_pass-2.true

pub returns-then-not-all_meet : goal.returns-then-not-all_meet
returns-then-not-all_meet c =
    let a = c.args in
    apart a.form a.curves.now a.count a.ring a.out.now c.whole_in-held.ensures c.all_pass.ensures c.if-not-all_pass.false c.all_pass-2.ensures c.if-not-all_pass-2.false c.all_meet.ensures c.if-not-all_meet.true

pub returns-then-held-count : goal.returns-then-held-count
returns-then-held-count c =
    let a = c.args in
    not_held a.form a.curves.now a.count a.ring a.out.now c.whole_in-held.ensures c.all_pass.ensures c.if-not-all_pass.false c.all_pass-2.ensures c.if-not-all_pass-2.false c.all_meet.ensures c.if-not-all_meet.false c.if-held-count.true

pub path_length-requires : goal.path_length-requires
path_length-requires c =
    let a = c.args in
    listed a.form a.curves.now a.count a.ring a.out.now c.whole_in-held.ensures c.all_pass.ensures c.if-not-all_pass.false c.all_pass-2.ensures c.if-not-all_pass-2.false c.all_meet.ensures c.if-not-all_meet.false c.if-held-count.false

pub returns-then-out-path_length : goal.returns-then-out-path_length
returns-then-out-path_length c =
    let a = c.args in
    too_short a.form a.curves.now a.count a.ring a.out.now c.whole_in-held.ensures c.all_pass.ensures c.if-not-all_pass.false c.all_pass-2.ensures c.if-not-all_pass-2.false c.all_meet.ensures c.if-not-all_meet.false c.if-held-count.false c.path_length.ensures (omega arith)

pub put_path-requires : goal.put_path-requires
put_path-requires c =
    let a = c.args in
    let l = listed a.form a.curves.now a.count a.ring a.out.now c.whole_in-held.ensures c.all_pass.ensures c.if-not-all_pass.false c.all_pass-2.ensures c.if-not-all_pass-2.false c.all_meet.ensures c.if-not-all_meet.false c.if-held-count.false in
    (l.0, (l.1, omega (arith, c.path_length.ensures)))

pub returns : goal.returns
returns c =
    let a = c.args in
    put_whole a.form a.curves.now a.count a.ring a.out.now c.whole_in-held.ensures c.all_pass.ensures c.if-not-all_pass.false c.all_pass-2.ensures c.if-not-all_pass-2.false c.all_meet.ensures c.if-not-all_meet.false c.if-held-count.false c.path_length.ensures (omega arith) c.put_path.ensures
