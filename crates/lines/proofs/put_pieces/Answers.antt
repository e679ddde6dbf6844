-- `lines::put_pieces` meets its contract. After i turns the first i lines are there.
use mathlib.Core.Path.{refl, sym}
use Prim.Native.Nat.{◌+◌, ◌*◌, ◌<◌, ◌≤◌}
use native.Mathlib.Nat.{add-zero}
use native.Mathlib.Omega.{arith}
use lib.ListN.{length}
use Rattle.text.proofs.Stores.{next}
use Rattle.lines.specs.Lines.{piece_lines}
use Rattle.lines.proofs.Turns.{pieces_suc, piece_put}
use Rattle.lines.proofs.put_pieces.Goals as goal

pub loop-i-init : goal.loop-i-init
unfolding piece_lines
loop-i-init c = (omega arith, record { end = sym (add-zero _); out = refl })

pub loop-i-preserved : goal.loop-i-preserved
loop-i-preserved c =
    let l = c.loop-i in
    let a = c.args in
    let h : l.i < length a.firsts.now = omega arith in
    let m : 9 * l.i + 9 ≤ length a.curves.now = omega arith in
    let p = c.put_piece-end.ensures in
    (omega (arith, p.0), rw (pieces_suc a.firsts.now a.curves.now l.i h) at (next l.invariant.1 (piece_put a.curves.now l.i _ m p.1)))
