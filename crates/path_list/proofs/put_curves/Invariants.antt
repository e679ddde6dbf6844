-- What the loops of `path_list::put_curves` keep.
use Prim.Native.Nat.{◌+◌, ◌*◌, ◌≤◌}
use Rattle.text.specs.Put.{Put}
use Rattle.path_list.specs.PathList.{curve_lines}
use Rattle.path_list.proofs.put_curves.Given as goal

abbrev pub invariant-loop-i : goal.invariant-loop-i
invariant-loop-i l = (l.end ≤ l.at + 153 * l.i) × Put l.initial.out l.at (curve_lines l.i l.curves) l.out l.end
