-- The words of inner contracts: room for what a packed file with curves holds. No public promise cites these. Definitions only.
use Rattle.std.specs.Prelude.{ℕ, ◌+◌, ◌*◌, ◌<◌, ◌≤◌, List, length}
use Rattle.form.specs.declared.Form.{Form}
use Rattle.form.specs.Form.{width, worsts_for}
use Rattle.house.specs.Limits.{number_field, mark_numbers, head_bytes}
use Rattle.packed.specs.Unpacked.{entry_at}

-- n marks and k curves, at least one, are within the packed bytes and within the slices
pub record PackedRoom (form : Form) (n k : ℕ) (b M P W C Q : List ℕ) : Type 0 where
  pub some : 0 < k
  pub bytes : entry_at form n k + head_bytes + number_field * n ≤ length b
  pub marks : mark_numbers * n ≤ length M
  pub firsts : k ≤ length P
  pub worsts : worsts_for form k ≤ length W
  pub curves : width form * k ≤ length C
  pub params : n ≤ length Q
