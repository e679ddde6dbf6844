-- `path_list::put_curves` meets its contract.
use native.Mathlib.Omega.{arith}
use Rattle.path_list.proofs.Lines.{put_none, put_next}
use Rattle.path_list.proofs.put_curves.Goals as goal

pub loop-i-init : goal.loop-i-init
loop-i-init c = (omega arith, put_none c.args.curves.now _ _)

pub loop-i-preserved : goal.loop-i-preserved
loop-i-preserved c =
    let p = c.put_piece-end.ensures in
    (omega (arith, p.0), put_next c.args.curves.now c.loop-i.i (omega arith) c.loop-i.invariant.1 p.1)
