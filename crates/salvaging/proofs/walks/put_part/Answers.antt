-- `salvaging::walks::put_part` meets its contract.
use mathlib.Core.Path.{refl}
use native.Mathlib.Omega.{arith}
use Rattle.salvaging.proofs.Goes.{begun, gone, ended}
use Rattle.salvaging.proofs.Walk.{left_all, left_none, left_more, left_count}
use Rattle.salvaging.proofs.walks.put_part.Goals as goal

pub loop-i-init : goal.loop-i-init
loop-i-init c = begun (left_all c.args.file.now c.args.n c.args.part)

pub mark_at-p-requires : goal.mark_at-p-requires
mark_at-p-requires c = omega (arith, c.requires.0)

pub put_piece-end-requires : goal.put_piece-end-requires
put_piece-end-requires c = (omega (arith, c.requires.0), omega (arith, c.loop-i.invariant.size, c.loop-i.invariant.same, c.requires.1, left_count c.args.file.now c.args.n c.loop-i.i c.loop-i.last (omega arith) c.mark_at-p.ensures c.fate_of-fate.ensures refl c.args.part))

pub loop-i-preserved : goal.loop-i-preserved
loop-i-preserved c = gone c.loop-i.invariant (left_more c.args.file.now c.args.n c.loop-i.i c.loop-i.last (omega arith) c.mark_at-p.ensures c.fate_of-fate.ensures c.after-last.ensures c.args.part) c.put_piece-end.ensures

pub returns : goal.returns
returns c = ended c.loop-i.invariant (left_none c.args.file.now c.args.n c.args.part c.loop-i.last c.loop-i.i (omega arith))
