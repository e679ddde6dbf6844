-- What the loops of `lines::put_pieces` keep.
use Prim.Native.Nat.{◌+◌, ◌*◌, ◌≤◌}
use lib.ListN.{take}
use Rattle.text.specs.Put.{Put}
use Rattle.lines.specs.Lines.{piece_lines}
use Rattle.lines.proofs.put_pieces.Given as goal

abbrev pub invariant-loop-i : goal.invariant-loop-i
invariant-loop-i l = (l.end ≤ l.at + 153 * l.i) × Put l.initial.out l.at (piece_lines (take l.i l.firsts) l.curves) l.out l.end
