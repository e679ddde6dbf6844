-- What the loops of `text::put_hex` keep.
use mathlib.Core.Path.{◌≡◌}
use Prim.Native.Nat.{◌+◌, ◌-◌, ◌/◌, ◌^◌}
use lib.Seq.{sets}
use Rattle.text.specs.Text.{hex}
use Rattle.text.proofs.put_hex.Given as goal

abbrev pub invariant-loop-i : goal.invariant-loop-i
invariant-loop-i l = (l.rest ≡ l.x / 16 ^ (16 - l.i)) × (l.out ≡ sets l.initial.out (l.at + l.i) (hex (16 - l.i) l.x))
