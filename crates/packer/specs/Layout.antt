-- The words of inner contracts: where the curves of a file stand before they are packed. No public promise cites these. Definitions only.
use Rattle.std.specs.Prelude.{ℕ, ◌+◌, ◌*◌, List, ◌++◌}
use Rattle.form.specs.declared.Form.{Form}
use Rattle.house.specs.Limits.{length_field, kind_field, field_for, curve_bytes, numbers_at}
use Rattle.house.specs.Bytes.{le, les}
use Rattle.house.specs.File.{File}
use Rattle.house.specs.Held.{marks_end}
use Rattle.packed.specs.Packed.{packed_kind, flag_field, flag, packed_mark, lead_bytes, entry_bytes, mark_at, start_at}

-- the record of curve i behind n marks, and the numbers in it
abbrev pub record_at : Form → ℕ → ℕ → ℕ
record_at form n i = marks_end n + curve_bytes form (field_for n) * i

abbrev pub numbers_place : Form → ℕ → ℕ → ℕ
numbers_place form n i = record_at form n i + numbers_at form (field_for n)

-- what kind 8 states as its length, for k curves; and all of it up to the first of them
abbrev pub packed_length : Form → ℕ → ℕ
packed_length form k = kind_field + (lead_bytes + entry_bytes form * k)

abbrev pub lead_of : File → ℕ → List ℕ
lead_of F k = (le length_field (packed_length F.form k) ++ le kind_field packed_kind) ++ (le flag_field (flag F.form) ++ (le packed_mark (mark_at F 0) ++ les (start_at F 0)))
