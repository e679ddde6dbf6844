-- The words of inner contracts: the record of a curve, of what stands in a packed file. No public promise cites these. Definitions only.
use Rattle.std.specs.Prelude.{ℕ, List, ◌++◌, drop}
use Rattle.form.specs.declared.Form.{Form}
use Rattle.house.specs.declared.sizes.Field.{Field}
use Rattle.house.specs.Limits.{mark_numbers, worst_marks, curve_kind}
use Rattle.house.specs.Bytes.{num, row, words}
use Rattle.house.specs.File.{rec, framed, body_of}
use Rattle.packed.specs.Packed.{packed_mark, rest_numbers}
use Rattle.packed.specs.Unpacked.{first_place, start_place, rest_place, worst_place}

-- of curve i behind n marks: its first mark; its worst mark, where it is kept; its numbers
abbrev pub first_here : List ℕ → Form → ℕ → ℕ → ℕ
first_here b form n i = num packed_mark b (first_place form n i)

abbrev pub worst_here : List ℕ → Form → ℕ → ℕ → List ℕ
worst_here b form n i = row packed_mark (worst_marks form) (drop (worst_place form n i) b)

abbrev pub numbers_here : List ℕ → Form → ℕ → ℕ → List ℕ
numbers_here b form n i = words mark_numbers (drop (start_place form n i) b) ++ words (rest_numbers form) (drop (rest_place form n i) b)

-- its record
unfoldable pub record_here : List ℕ → Form → Field → ℕ → ℕ → List ℕ
record_here b form field n i = framed (rec (curve_kind form field) (body_of form field (first_here b form n i) (worst_here b form n i) (numbers_here b form n i)))
