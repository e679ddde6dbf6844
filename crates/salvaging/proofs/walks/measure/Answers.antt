-- `salvaging::walks::measure` meets its contract.
use mathlib.Core.Path.{ap}
use native.Mathlib.Omega.{arith}
use lib.ListN.{length}
use Rattle.salvaging.proofs.Walk.{left_all, left_none, left_count, piece_length_is}
use Rattle.salvaging.proofs.walks.measure.Goals as goal

pub loop-i-init : goal.loop-i-init
loop-i-init c = (omega arith, omega (arith, ap length (left_all c.args.file.now c.args.n c.args.part)))

pub mark_at-p-requires : goal.mark_at-p-requires
mark_at-p-requires c = omega (arith, c.requires.0)

pub overflow_add-size : goal.overflow_add-size
overflow_add-size c = omega (arith, c.piece_len-size.ensures.0, c.loop-i.invariant.0, c.requires.1)

pub loop-i-preserved : goal.loop-i-preserved
loop-i-preserved c =
    let v = c.loop-i.invariant in
    let l = piece_length_is c.args.part c.args.file.now c.loop-i.i c.fate_of-fate.result in
    let k = left_count c.args.file.now c.args.n c.loop-i.i c.loop-i.last (omega arith) c.mark_at-p.ensures c.fate_of-fate.ensures c.after-last.ensures c.args.part in
    (omega (arith, c.piece_len-size.ensures.0, v.0), omega (arith, k, l, c.piece_len-size.ensures.1, v.1))

pub returns : goal.returns
returns c = let l = c.loop-i in (omega (arith, l.invariant.0), omega (arith, l.invariant.1, ap length (left_none c.args.file.now c.args.n c.args.part l.last l.i (omega arith))))
