-- What a house file is: records, and the records of a file. Definitions only.
use Rattle.std.specs.Prelude.{ℕ, ◌+◌, ◌*◌, ◌/◌, ◌≡◌, Bool, true, ◌&&◌, ◌||◌, cond, List, [], ◌∷◌, ◌++◌, ltb, eqb, length, take, drop}
use Rattle.form.specs.declared.Form.{Form}
use Rattle.form.specs.declared.Form.TheVariants.{Eight, Nine}
use Rattle.form.specs.Form.{width, worsts_for}
use Rattle.house.specs.declared.sizes.Field.{Field}
use Rattle.house.specs.Limits.{length_field, kind_field, field_for, mark_field, number_field, mark_numbers, worst_marks, tolerance_kind, marks_kind, curve_kind, params_kind}
use Rattle.house.specs.Bytes.{le, row_bytes, les, fits, all_fit}

-- ---- records

pub record Record : Type 0 where
  pub kind : ℕ
  pub body : List ℕ

abbrev pub rec : ℕ → List ℕ → Record
rec kind body = record { kind = kind; body = body }

-- a record's bytes: its length, which counts kind and body, its kind, its body
abbrev pub framed : Record → List ℕ
framed r = le length_field (kind_field + length r.body) ++ (le kind_field r.kind ++ r.body)

-- records, one after another
unfoldable pub flat : List Record → List ℕ
flat [] = []
flat (r ∷ rs) = framed r ++ flat rs

-- ---- files

-- what a file holds: how its curves are stored; the tolerance; x and y of each mark; each curve's first mark; its worst mark, where it is kept; its numbers; each mark's parameter
pub record File : Type 0 where
  pub form : Form
  pub tolerance : ℕ
  pub marks : List ℕ
  pub firsts : List ℕ
  pub worsts : List ℕ
  pub curves : List ℕ
  pub params : List ℕ

-- how many marks and curves a file has
abbrev pub marks_in : File → ℕ
marks_in F = length F.marks / mark_numbers

abbrev pub curves_in : File → ℕ
curves_in F = length F.firsts

-- how many bytes its mark numbers have
abbrev pub field_in : File → Field
field_in F = field_for (marks_in F)

-- a curve's body: its first mark, the next worst mark where one is kept, the next numbers
abbrev pub body_of : Form → Field → ℕ → List ℕ → List ℕ → List ℕ
body_of form field p W C = le (mark_field field) p ++ (row_bytes (mark_field field) (take (worst_marks form) W) ++ les (take (width form) C))

-- a record for each first mark
unfoldable pub curve_records : Form → Field → List ℕ → List ℕ → List ℕ → List Record
curve_records form field [] W C = []
curve_records form field (p ∷ P) W C = rec (curve_kind form field) (body_of form field p W C) ∷ curve_records form field P (drop (worst_marks form) W) (drop (width form) C)

-- what follows the marks: no more, or a record for each curve and one kind 4
unfoldable pub fit_records : Form → Field → List ℕ → List ℕ → List ℕ → List ℕ → List Record
fit_records form field [] W C Q = []
fit_records form field (p ∷ P) W C Q = curve_records form field (p ∷ P) W C ++ (rec params_kind (les Q) ∷ [])

-- one 1, one 2, and what follows
unfoldable pub records_of : File → List Record
records_of F = rec tolerance_kind (le number_field F.tolerance) ∷ (rec marks_kind (les F.marks) ∷ fit_records F.form (field_in F) F.firsts F.worsts F.curves F.params)

-- a file's bytes
abbrev pub bytes_of : File → List ℕ
bytes_of F = flat (records_of F)

-- ---- well formed files

-- no curves, or fewer than marks
abbrev pub fewer : ℕ → ℕ → Bool
fewer k n = eqb k 0 || ltb k n

-- a file without curves counts as one of eight numbers a curve
abbrev pub suits : Form → ℕ → Bool
suits Eight k = true
suits Nine k = ltb 0 k

abbrev pub form_for : Form → ℕ → Form
form_for form k = cond (eqb k 0) Eight form

-- how many parameters go with n marks and k curves: none without curves, else one for each mark
abbrev pub params_for : ℕ → ℕ → ℕ
params_for n k = cond (eqb k 0) 0 n

-- the lists have the right lengths, there are fewer curves than marks, and each number fits its field. (The longest record is kind 2.)
unfoldable pub well_formed : File → Bool
well_formed F =
    eqb (length F.marks) (mark_numbers * marks_in F)
    && (eqb (length F.worsts) (worsts_for F.form (curves_in F))
    && (eqb (length F.curves) (width F.form * curves_in F)
    && (eqb (length F.params) (params_for (marks_in F) (curves_in F))
    && (suits F.form (curves_in F)
    && (fewer (curves_in F) (marks_in F)
    && (fits length_field (kind_field + length (les F.marks))
    && (fits number_field F.tolerance
    && (all_fit number_field F.marks
    && (all_fit (mark_field (field_in F)) F.firsts
    && (all_fit (mark_field (field_in F)) F.worsts
    && (all_fit number_field F.curves
    && all_fit number_field F.params)))))))))))

-- the bytes b are the file F
pub record Holds (b : List ℕ) (F : File) : Type 0 where
  pub formed : well_formed F ≡ true
  pub bytes : bytes_of F ≡ b
