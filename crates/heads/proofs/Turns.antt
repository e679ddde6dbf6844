-- Turns of the loop that tests the heads of records of one kind: the next one, and those behind it. Assumes nothing.
use mathlib.Core.Path.{◌≡◌, ◌∙◌}
use mathlib.Core.Bool.{true, false, ◌&&◌}
use mathlib.Core.List.{List}
use Prim.Native.Nat.{ℕ, suc, ◌+◌, ◌-◌, ◌*◌, ◌<◌}
use native.Mathlib.Omega.{arith}
use lib.ListN.{drop}
use lib.Seq.{drop-drop}
use Rattle.house.specs.Layout.{head_at, records_lead}
use Rattle.grammar.proofs.Records.{head_drop}

module _ (b : List ℕ) (at body kind k i : ℕ) (h : i < k) where
  lead_turn : records_lead body kind (k - i) (drop (at + (6 + body) * i) b) ≡ head_at b (at + (6 + body) * i) (2 + body) kind && records_lead body kind (k - (i + 1)) (drop (at + (6 + body) * (i + 1)) b)
  unfolding records_lead
  lead_turn =
      let e : k - i ≡ suc (k - (i + 1)) = omega arith in
      let d : at + (6 + body) * i + (6 + body) ≡ at + (6 + body) * (i + 1) = omega arith in
      rw (e, head_drop b (at + (6 + body) * i) (2 + body) kind, drop-drop, d)

  pub lead_more : head_at b (at + (6 + body) * i) (2 + body) kind ≡ true → records_lead body kind (k - i) (drop (at + (6 + body) * i) b) ≡ records_lead body kind (k - (i + 1)) (drop (at + (6 + body) * (i + 1)) b)
  lead_more t = lead_turn ∙ rw t

  pub lead_stop : head_at b (at + (6 + body) * i) (2 + body) kind ≡ false → records_lead body kind (k - i) (drop (at + (6 + body) * i) b) ≡ false
  lead_stop t = lead_turn ∙ rw t
