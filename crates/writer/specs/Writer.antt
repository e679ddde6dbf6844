-- What the writer answers. Definitions only.
use Rattle.std.specs.Prelude.{ℕ, ◌*◌, ◌/◌, ◌%◌, Bool, ◌&&◌, List, leb, eqb, length, take}
use Rattle.float.specs.Answer.{Answer, ok, refused, unless}
use Rattle.form.specs.declared.Form.{Form}
use Rattle.form.specs.Form.{width, worsts_for}
use Rattle.limits.specs.Limits.{most_marks}
use Rattle.house.specs.Limits.{too_many, odd_marks, no_room, badly_formed, field_for, mark_field, mark_numbers}
use Rattle.house.specs.Bytes.{all_fit}
use Rattle.house.specs.File.{File, bytes_of, fewer, form_for, params_for}
use Rattle.float.specs.Slices.{written}
use Rattle.house.specs.Slices.{room}

-- the file that a form, a tolerance, marks, a count of curves and the slices give
unfoldable pub file_for : Form → ℕ → List ℕ → ℕ → List ℕ → List ℕ → List ℕ → List ℕ → File
file_for form t M k P W C Q = record {
  form = form_for form k;
  tolerance = t;
  marks = M;
  firsts = take k P;
  worsts = take (worsts_for form k) W;
  curves = take (width form * k) C;
  params = take (params_for (length M / mark_numbers) k) Q;
}

-- whether the mark numbers of k curves fit the field that goes with n marks
abbrev pub marks_fit : Form → ℕ → ℕ → List ℕ → List ℕ → Bool
marks_fit form n k P W = all_fit (mark_field (field_for n)) (take k P) && all_fit (mark_field (field_for n)) (take (worsts_for form k) W)

-- 3, 2, 4, 9, or the file: o is the room for bytes
unfoldable pub checked : Form → ℕ → List ℕ → ℕ → List ℕ → List ℕ → List ℕ → List ℕ → ℕ → Answer File
checked form t M k P W C Q o =
    unless odd_marks (eqb (length M % mark_numbers) 0)
    (unless too_many (leb (length M / mark_numbers) most_marks)
    (unless no_room (room form (length M / mark_numbers) k (length P) (length W) (length C) (length Q) && leb (length (bytes_of (file_for form t M k P W C Q))) o)
    (unless badly_formed (fewer k (length M / mark_numbers) && marks_fit form (length M / mark_numbers) k P W)
    (ok (file_for form t M k P W C Q)))))

-- the answer, and the lent bytes as they are left
pub record Writing : Type 0 where
  pub answer : Answer ℕ
  pub out : List ℕ

abbrev pub writing : Answer ℕ → List ℕ → Writing
writing a O = record { answer = a; out = O }

-- a file's bytes fill the first places, and a refusal leaves them
abbrev pub put : Answer File → List ℕ → Writing
put (ok F) O = writing (ok (length (bytes_of F))) (written (bytes_of F) O)
put (refused q) O = writing (refused q) O

-- from the numbers, the slices and the bytes as they were lent
unfoldable pub write_of : Form → ℕ → List ℕ → ℕ → List ℕ → List ℕ → List ℕ → List ℕ → List ℕ → Writing
write_of form t M k P W C Q O = put (checked form t M k P W C Q (length O)) O
