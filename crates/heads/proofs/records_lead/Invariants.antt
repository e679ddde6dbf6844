-- What the loops of `heads::records_lead` keep.
use mathlib.Core.Path.{◌≡◌}
use Prim.Native.Nat.{◌+◌, ◌-◌, ◌*◌}
use lib.ListN.{drop}
use Rattle.house.specs.Layout.{records_lead}
use Rattle.heads.proofs.records_lead.Given as goal

abbrev pub invariant-loop-i : goal.invariant-loop-i
invariant-loop-i l = records_lead l.body l.kind l.k (drop l.at l.b) ≡ records_lead l.body l.kind (l.k - l.i) (drop (l.at + (6 + l.body) * l.i) l.b)
