-- The file that bytes are. Three things settle how a file is laid out: the marks, by the length of kind 2, and with them how many bytes a mark number has; how curves are stored, by the kind of the record behind the marks; and the
-- curves, by the length of the whole. So bytes can be one file only, the candidate; and they are it where it is well formed and they are its bytes.
-- (proofs/Grammar: bytes are the file F just where `Holds b F`.) Definitions only.
use Rattle.std.specs.Prelude.{ℕ, zero, suc, ◌+◌, ◌-◌, ◌*◌, ◌/◌, Bool, ◌&&◌, cond, List, [], ◌++◌, eqb, length, drop}
use Rattle.float.specs.Answer.{Answer, ok, unless}
use Rattle.form.specs.declared.Form.{Form}
use Rattle.form.specs.declared.Form.TheVariants.{Eight, Nine}
use Rattle.form.specs.Form.{width}
use Rattle.house.specs.declared.sizes.Field.{Field}
use Rattle.house.specs.Limits.{badly_formed, length_field, kind_field, field_for, mark_field, number_field, mark_numbers, worst_marks, curve_kind, head_bytes, mark_bytes, curve_bytes, numbers_at, marks_head, marks_at}
use Rattle.house.specs.Bytes.{num, row, words, same}
use Rattle.house.specs.File.{File, bytes_of, params_for, well_formed}

-- where the marks end, and where the parameters of n marks and k curves start
abbrev pub marks_end : ℕ → ℕ
marks_end n = marks_at + mark_bytes * n

abbrev pub params_at : Form → ℕ → ℕ → ℕ
params_at form n k = marks_end n + curve_bytes form (field_for n) * k + head_bytes

abbrev pub marks_held : List ℕ → ℕ
marks_held b = num length_field b marks_head / mark_bytes

-- the form that goes with a kind: eight numbers a curve, unless it is that of nine
unfoldable pub form_of : Field → ℕ → Form
form_of field kind = cond (eqb kind (curve_kind Nine field)) Nine Eight

abbrev pub form_held : List ℕ → ℕ → Form
form_held b n = form_of (field_for n) (num kind_field b (marks_end n + length_field))

abbrev pub curves_held : List ℕ → Form → ℕ → ℕ
curves_held b form n = (length b - (marks_end n + head_bytes + number_field * n)) / curve_bytes form (field_for n)

-- rows of n numbers, of f bytes each, that stand at the place p of k records of so many bytes
unfoldable pub in_each : ℕ → ℕ → ℕ → ℕ → ℕ → List ℕ → List ℕ
in_each f n p bytes zero b = []
in_each f n p bytes (suc k) b = row f n (drop p b) ++ in_each f n p bytes k (drop bytes b)

-- the first marks, the worst marks that are kept, and the numbers, of k curves
abbrev pub firsts_of : Form → Field → ℕ → List ℕ → List ℕ
firsts_of form field k b = in_each (mark_field field) 1 head_bytes (curve_bytes form field) k b

abbrev pub worsts_of : Form → Field → ℕ → List ℕ → List ℕ
worsts_of form field k b = in_each (mark_field field) (worst_marks form) (head_bytes + mark_field field) (curve_bytes form field) k b

abbrev pub curves_of : Form → Field → ℕ → List ℕ → List ℕ
curves_of form field k b = in_each number_field (width form) (numbers_at form field) (curve_bytes form field) k b

-- what stands where n marks and k curves would have it
abbrev pub file_at : List ℕ → Form → ℕ → ℕ → File
file_at b form n k = record {
  form = form;
  tolerance = num number_field b head_bytes;
  marks = words (mark_numbers * n) (drop marks_at b);
  firsts = firsts_of form (field_for n) k (drop (marks_end n) b);
  worsts = worsts_of form (field_for n) k (drop (marks_end n) b);
  curves = curves_of form (field_for n) k (drop (marks_end n) b);
  params = words (params_for n k) (drop (params_at form n k) b);
}

-- the one file that is possible
unfoldable pub candidate : List ℕ → File
candidate b = file_at b (form_held b (marks_held b)) (marks_held b) (curves_held b (form_held b (marks_held b)) (marks_held b))

unfoldable pub is_file : List ℕ → Bool
is_file b = well_formed (candidate b) && same (bytes_of (candidate b)) b

unfoldable pub file_of : List ℕ → Answer File
file_of b = unless badly_formed (is_file b) (ok (candidate b))
