-- What the loop of `text::put_bytes` keeps: after i turns the first i bytes are there.
use mathlib.Core.Path.{◌≡◌}
use Prim.Native.Nat.{◌≤◌}
use lib.ListN.{length, take}
use lib.Seq.{sets}
use Rattle.text.proofs.put_bytes.Given as goal

abbrev pub invariant-loop-i : goal.invariant-loop-i
invariant-loop-i l = (l.i ≤ length l.text) × ((l.out ≡ sets l.initial.out l.at (take l.i l.text)) × (length l.out ≡ length l.initial.out))
