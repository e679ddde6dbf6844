-- Kind 8, one record in place of all curve records, in which each joint stands once; and the packed bytes of a file. Definitions only.
use Rattle.std.specs.Prelude.{ℕ, suc, ◌+◌, ◌-◌, ◌*◌, ◌≡◌, Bool, true, cond, List, [], ◌∷◌, ◌++◌, eqb, length, take, drop, get_or}
use Rattle.form.specs.declared.Form.{Form}
use Rattle.form.specs.declared.Form.TheVariants.{Eight, Nine}
use Rattle.form.specs.Form.{width, worsts_for}
use Rattle.house.specs.declared.sizes.Field.TheVariants.{Four}
use Rattle.house.specs.Limits.{length_field, kind_field, mark_field, number_field, mark_numbers, worst_marks, mark_bytes, tolerance_kind, marks_kind, params_kind}
use Rattle.house.specs.Bytes.{le, row_bytes, les, fits, same}
use Rattle.house.specs.File.{Record, rec, flat, File, marks_in, curves_in, well_formed}
use Rattle.packed.specs.Each.{each}

-- ---- the numbers that the document fixes

-- curves that don't meet
abbrev pub not_joined : ℕ
not_joined = 12

abbrev pub packed_kind : ℕ
packed_kind = 8

-- the leading byte: 1 if the largest distance and the worst mark of each curve are kept
abbrev pub flag_field : ℕ
flag_field = 1

abbrev pub flag : Form → ℕ
flag Eight = 0
flag Nine = 1

-- a mark number, whatever the number of marks
abbrev pub packed_mark : ℕ
packed_mark = mark_field Four

-- how many of a curve's numbers come before its end, and how many are kept of it: all but its start
abbrev pub before_end : ℕ
before_end = 6

abbrev pub rest_numbers : Form → ℕ
rest_numbers Eight = 6
rest_numbers Nine = 7

-- what follows, in bytes: all that stands before the first curve; a curve
abbrev pub lead_bytes : ℕ
lead_bytes = flag_field + packed_mark + mark_bytes

abbrev pub entry_bytes : Form → ℕ
entry_bytes form = packed_mark + number_field * rest_numbers form + packed_mark * worst_marks form

-- ---- curve i of a file: its start and its end, its numbers but the start, its worst mark where it is kept

abbrev pub start_at : File → ℕ → List ℕ
start_at F i = take mark_numbers (drop (width F.form * i) F.curves)

abbrev pub end_at : File → ℕ → List ℕ
end_at F i = take mark_numbers (drop (width F.form * i + before_end) F.curves)

abbrev pub rest_at : File → ℕ → List ℕ
rest_at F i = take (rest_numbers F.form) (drop (width F.form * i + mark_numbers) F.curves)

abbrev pub worst_at : File → ℕ → List ℕ
worst_at F i = take (worst_marks F.form) (drop (worsts_for F.form i) F.worsts)

-- the first marks, and behind them the number of the last mark: so the next mark number of curve i is that of i + 1
abbrev pub mark_at : File → ℕ → ℕ
mark_at F i = get_or (F.firsts ++ ((marks_in F - 1) ∷ [])) i 0

-- ---- the record

-- a curve: its next mark number, its controls and its end, and where they are kept the distance and the worst mark
abbrev pub entry_of : File → ℕ → List ℕ
entry_of F i = le packed_mark (mark_at F (suc i)) ++ (les (rest_at F i) ++ row_bytes packed_mark (worst_at F i))

-- the leading byte, the first curve's first mark and its start, and the curves
abbrev pub packed_body : File → List ℕ
packed_body F = le flag_field (flag F.form) ++ (le packed_mark (mark_at F 0) ++ (les (start_at F 0) ++ each (curves_in F) (entry_of F)))

-- kind 4 follows as before; a file without curves stays as it is
abbrev pub packed_rest : File → List Record
packed_rest F = cond (eqb (curves_in F) 0) [] (rec packed_kind (packed_body F) ∷ (rec params_kind (les F.params) ∷ []))

unfoldable pub packed_records : File → List Record
packed_records F = rec tolerance_kind (le number_field F.tolerance) ∷ (rec marks_kind (les F.marks) ∷ packed_rest F)

abbrev pub packed_bytes : File → List ℕ
packed_bytes F = flat (packed_records F)

-- ---- files that can be packed

-- the record's length fits its field
abbrev pub short : File → Bool
short F = fits length_field (kind_field + length (packed_body F))

-- each curve ends, bit for bit, where the next one starts
unfoldable pub meets : File → Bool
meets F = same (each (curves_in F - 1) (end_at F)) (each (curves_in F - 1) (λ (i : ℕ). start_at F (suc i)))

-- the bytes b are the file F, packed
pub record Packs (b : List ℕ) (F : File) : Type 0 where
  pub formed : well_formed F ≡ true
  pub short : short F ≡ true
  pub meets : meets F ≡ true
  pub bytes : packed_bytes F ≡ b
