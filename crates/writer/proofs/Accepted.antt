-- When the writer accepts: its tests as facts. Assumes nothing.
use mathlib.Core.Path.{◌≡◌}
use mathlib.Core.Bool.{true}
use mathlib.Core.List.{List}
use Prim.Native.Nat.{ℕ, ◌/◌, ◌%◌, ◌≤◌}
use borrow.Author.Tests.{le-leb, eq-eqb}
use lib.ListN.{length, take}
use Rattle.float.specs.Answer.{ok}
use Rattle.form.specs.declared.Form.{Form}
use Rattle.form.specs.Form.{worsts_for}
use Rattle.limits.specs.Limits.{most_marks}
use Rattle.house.specs.Limits.{field_for, mark_field}
use Rattle.house.specs.Bytes.{all_fit}
use Rattle.house.specs.File.{bytes_of, fewer}
use Rattle.float.specs.Slices.{written}
use Rattle.writer.specs.Writer.{file_for, checked, writing, write_of}
use Rattle.grammar.proofs.Rooms.{Places, placing}

-- the numbers and the slices make a file that the writer takes
pub record Sound (form : Form) (M : List ℕ) (k : ℕ) (P W C Q : List ℕ) : Type 0 where
  pub even : length M % 2 ≡ 0
  pub few : length M / 2 ≤ most_marks
  pub places : Places form (length M / 2) k (length P) (length W) (length C) (length Q)
  pub fewer : fewer k (length M / 2) ≡ true
  pub firsts : all_fit (mark_field (field_for (length M / 2))) (take k P) ≡ true
  pub worsts : all_fit (mark_field (field_for (length M / 2))) (take (worsts_for form k) W) ≡ true

pub write_accepts : (t : ℕ) (O : List ℕ) {form : Form} {M : List ℕ} {k : ℕ} {P W C Q : List ℕ} → Sound form M k P W C Q → length (bytes_of (file_for form t M k P W C Q)) ≤ length O
    → write_of form t M k P W C Q O ≡ writing (ok (length (bytes_of (file_for form t M k P W C Q)))) (written (bytes_of (file_for form t M k P W C Q)) O)
unfolding write_of checked
write_accepts t O {form} {M} {k} {P} {W} {C} {Q} s h =
    rw (
      eq-eqb (length M % 2) 0 s.even,
      le-leb (length M / 2) most_marks s.few,
      placing s.places,
      le-leb (length (bytes_of (file_for form t M k P W C Q))) (length O) h,
      s.fewer,
      s.firsts,
      s.worsts,
    )
