-- The file that packed bytes are. The marks are settled by the length of kind 2, how curves are stored by the leading byte, and the curves by the length of the whole. So there is one candidate; and bytes are it, packed, where it can be
-- packed and they are its packed bytes. Definitions only.
use Rattle.std.specs.Prelude.{ℕ, zero, suc, ◌+◌, ◌-◌, ◌*◌, ◌/◌, Bool, ◌&&◌, cond, List, ◌++◌, eqb, length, drop}
use Rattle.float.specs.Answer.{Answer, ok, unless}
use Rattle.form.specs.declared.Form.{Form}
use Rattle.form.specs.declared.Form.TheVariants.{Eight, Nine}
use Rattle.house.specs.Limits.{badly_formed, number_field, mark_numbers, worst_marks, head_bytes, marks_at}
use Rattle.house.specs.Bytes.{num, row, words, same}
use Rattle.house.specs.File.{File, params_for, well_formed}
use Rattle.house.specs.Held.{marks_end, marks_held, candidate, is_file}
use Rattle.packed.specs.Each.{each}
use Rattle.packed.specs.Packed.{flag_field, flag, packed_mark, before_end, rest_numbers, lead_bytes, entry_bytes, packed_bytes, short, meets}

-- where the leading byte stands behind n marks, and where curve i does
abbrev pub flag_at : ℕ → ℕ
flag_at n = marks_end n + head_bytes

abbrev pub entry_at : Form → ℕ → ℕ → ℕ
entry_at form n i = flag_at n + lead_bytes + entry_bytes form * i

-- where the first mark of curve i stands, and where its start: before the curves, or in the curve before it
abbrev pub first_place : Form → ℕ → ℕ → ℕ
first_place form n zero = flag_at n + flag_field
first_place form n (suc i) = entry_at form n i

abbrev pub start_place : Form → ℕ → ℕ → ℕ
start_place form n zero = flag_at n + flag_field + packed_mark
start_place form n (suc i) = entry_at form n i + packed_mark + number_field * (before_end - mark_numbers)

-- where the numbers of curve i but its start are, and its worst mark
abbrev pub rest_place : Form → ℕ → ℕ → ℕ
rest_place form n i = entry_at form n i + packed_mark

abbrev pub worst_place : Form → ℕ → ℕ → ℕ
worst_place form n i = entry_at form n i + packed_mark + number_field * rest_numbers form

-- what stands there
abbrev pub firsts_in : List ℕ → Form → ℕ → ℕ → List ℕ
firsts_in b form n k = each k (λ (i : ℕ). row packed_mark 1 (drop (first_place form n i) b))

abbrev pub worsts_in : List ℕ → Form → ℕ → ℕ → List ℕ
worsts_in b form n k = each k (λ (i : ℕ). row packed_mark (worst_marks form) (drop (worst_place form n i) b))

abbrev pub numbers_in : List ℕ → Form → ℕ → ℕ → List ℕ
numbers_in b form n k = each k (λ (i : ℕ). words mark_numbers (drop (start_place form n i) b) ++ words (rest_numbers form) (drop (rest_place form n i) b))

abbrev pub packed_at : List ℕ → Form → ℕ → ℕ → File
packed_at b form n k = record {
  form = form;
  tolerance = num number_field b head_bytes;
  marks = words (mark_numbers * n) (drop marks_at b);
  firsts = firsts_in b form n k;
  worsts = worsts_in b form n k;
  curves = numbers_in b form n k;
  params = words (params_for n k) (drop (entry_at form n k + head_bytes) b);
}

-- how curves are stored, and how many there are
abbrev pub packed_form : List ℕ → ℕ → Form
packed_form b n = cond (eqb (num flag_field b (flag_at n)) (flag Nine)) Nine Eight

abbrev pub packed_curves : List ℕ → Form → ℕ → ℕ
packed_curves b form n = (length b - (entry_at form n 0 + head_bytes + number_field * n)) / entry_bytes form

-- the one file that is possible
unfoldable pub packed_candidate : List ℕ → File
packed_candidate b = packed_at b (packed_form b (marks_held b)) (marks_held b) (packed_curves b (packed_form b (marks_held b)) (marks_held b))

unfoldable pub is_packed : List ℕ → Bool
is_packed b = well_formed (packed_candidate b) && (short (packed_candidate b) && (meets (packed_candidate b) && same (packed_bytes (packed_candidate b)) b))

-- a packed file, or 9
unfoldable pub packed_of : List ℕ → Answer File
packed_of b = unless badly_formed (is_packed b) (ok (packed_candidate b))

-- a file in either form, or 9
unfoldable pub held_of : List ℕ → Answer File
held_of b = cond (is_file b) (ok (candidate b)) (packed_of b)
