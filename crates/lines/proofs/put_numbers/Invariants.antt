-- What the loop of `lines::put_numbers` keeps.
use mathlib.Core.Path.{◌≡◌}
use Prim.Native.Nat.{◌+◌, ◌*◌}
use lib.ListN.{take}
use Rattle.text.specs.Put.{Put}
use Rattle.lines.specs.Lines.{numbers}
use Rattle.lines.proofs.put_numbers.Given as goal

abbrev pub invariant-loop-x : goal.invariant-loop-x
invariant-loop-x l = (l.end ≡ l.at + 17 * l.x-index) × Put l.initial.out l.at (numbers (take l.x-index (take 8 l.curve))) l.out l.end
