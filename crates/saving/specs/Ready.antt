-- Words of the inner contracts. Definitions only.
use Rattle.std.specs.Prelude.{ℕ, ◌%◌, ◌/◌, ◌<◌, ◌≤◌, ◌≡◌, true, List, length, take, Float}
use Rattle.house.specs.Limits.{field_for, mark_field}
use Rattle.house.specs.Bytes.{all_fit}

-- marks and k curves that a file can hold, in slices with room for 4,096 marks
pub record Ready (M : List ℕ) (k : ℕ) (P W : List ℕ) (C Q : List Float) : Type 0 where
  pub even : length M % 2 ≡ 0
  pub few : length M ≤ 8192
  pub some : 0 < k
  pub fewer : k < length M / 2
  pub firsts : length P ≡ 4095
  pub worsts : length W ≡ 4095
  pub curves : length C ≡ 36855
  pub params : length Q ≡ 4096
  pub fit : all_fit (mark_field (field_for (length M / 2))) (take k P) ≡ true
  pub worst-fit : all_fit (mark_field (field_for (length M / 2))) (take k W) ≡ true
