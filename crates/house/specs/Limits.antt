-- The numbers that the document fixes for the house file, each under one name. Definitions only.
use Rattle.std.specs.Prelude.{ℕ, ◌+◌, ◌*◌, cond, leb}
use Rattle.form.specs.declared.Form.{Form}
use Rattle.form.specs.declared.Form.TheVariants.{Eight, Nine}
use Rattle.form.specs.Form.{width, worsts_for}
use Rattle.house.specs.declared.sizes.Field.{Field}
use Rattle.house.specs.declared.sizes.Field.TheVariants.{Two, Four}

-- ---- refusals

abbrev pub too_many : ℕ
too_many = 2

abbrev pub odd_marks : ℕ
odd_marks = 3

abbrev pub no_room : ℕ
no_room = 4

abbrev pub badly_formed : ℕ
badly_formed = 9

-- ---- fields, in bytes: a record's length and its kind, any number that is no mark's

abbrev pub length_field : ℕ
length_field = 4

abbrev pub kind_field : ℕ
kind_field = 2

abbrev pub number_field : ℕ
number_field = 8

-- ---- the number of a first or a worst mark has two bytes, in a file of more than 4,096 marks four

abbrev pub most_small : ℕ
most_small = 4096

unfoldable pub field_for : ℕ → Field
field_for n = cond (leb n most_small) Two Four

abbrev pub mark_field : Field → ℕ
mark_field Two = 2
mark_field Four = 4

-- ---- how many numbers a mark has; and how many mark numbers stand in a curve's record: its worst mark, where the form keeps it, behind its first mark

abbrev pub mark_numbers : ℕ
mark_numbers = 2

abbrev pub worst_marks : Form → ℕ
worst_marks form = worsts_for form 1

abbrev pub besides : Form → ℕ
besides form = 1 + worst_marks form

-- ---- kinds: that of a curve goes by the form, and by how many bytes its mark numbers have

abbrev pub tolerance_kind : ℕ
tolerance_kind = 1

abbrev pub marks_kind : ℕ
marks_kind = 2

abbrev pub curve_kind : Form → Field → ℕ
curve_kind Eight Two = 3
curve_kind Eight Four = 5
curve_kind Nine Two = 6
curve_kind Nine Four = 7

abbrev pub params_kind : ℕ
params_kind = 4

-- ---- what follows, in bytes: a record's length and kind; a mark; a curve's mark numbers, its body and its whole record, and where its other numbers start; where kind 2 and the marks in it start

abbrev pub head_bytes : ℕ
head_bytes = length_field + kind_field

abbrev pub mark_bytes : ℕ
mark_bytes = mark_numbers * number_field

abbrev pub beside_bytes : Form → Field → ℕ
beside_bytes form field = mark_field field * besides form

abbrev pub body_bytes : Form → Field → ℕ
body_bytes form field = beside_bytes form field + number_field * width form

abbrev pub curve_bytes : Form → Field → ℕ
curve_bytes form field = head_bytes + body_bytes form field

abbrev pub numbers_at : Form → Field → ℕ
numbers_at form field = head_bytes + beside_bytes form field

abbrev pub marks_head : ℕ
marks_head = head_bytes + number_field

abbrev pub marks_at : ℕ
marks_at = marks_head + head_bytes
