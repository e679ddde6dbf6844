-- `writer::records::put_file` meets its contract.
use mathlib.Core.Path.{◌≡◌, ap, ◌∙◌}
use Prim.Native.Nat.{ℕ, ◌+◌, ◌*◌, ◌/◌, ◌<◌}
use native.Mathlib.Omega.{arith}
use lib.ListN.{length}
use Rattle.house.specs.declared.sizes.Field.{Field}
use Rattle.house.specs.Limits.{field_for, body_bytes, curve_bytes}
use Rattle.house.proofs.Forms.{body-few}
use Rattle.grammar.proofs.Rooms.{room_start, room_whole, room-params}
use Rattle.writer.proofs.Puts.{put-plain, put_whole}
use Rattle.writer.proofs.records.put_file.Goals as goal
use Rattle.writer.proofs.records.put_file.Goals.{After-body_bytes}

-- the lengths of a body and of the curves, as they were worked out
body_of : (c : After-body_bytes) → c.body_bytes.result ≡ body_bytes c.args.form (field_for (length c.args.marks.now / 2))
body_of c = c.body_bytes.ensures ∙ ap (λ (f : Field). body_bytes c.args.form f) c.field_for-field.ensures

bytes_of : (c : After-body_bytes) → (6 + c.body_bytes.result) * c.args.k ≡ curve_bytes c.args.form (field_for (length c.args.marks.now / 2)) * c.args.k
bytes_of c = ap (λ (x : ℕ). (6 + x) * c.args.k) (body_of c)

pub put_marks-requires : goal.put_marks-requires
put_marks-requires c = omega (arith, c.requires.mark_numbers_len, room_start c.requires.room)

pub returns-then-k-eq0 : goal.returns-then-k-eq0
returns-then-k-eq0 c = c.put_marks.ensures ∙ put-plain c.args.tolerance c.requires.mark_numbers_len c.requires.room c.if-k-eq0.true

pub put_curves-requires : goal.put_curves-requires
put_curves-requires c =
    let some : 0 < c.args.k = omega arith in
    let r = c.requires.room in rw c.field_for-field.ensures (omega (arith, room_whole r some), (r.firsts, (r.worsts, r.curves)))

pub overflow_add-last : goal.overflow_add-last
overflow_add-last c =
    let body = body_of (goal.at.overflow_add-last c).After-body_bytes in
    omega (arith, body-few c.args.form (field_for (length c.args.marks.now / 2)), body)

pub overflow_mul-last : goal.overflow_mul-last
overflow_mul-last c =
    let some : 0 < c.args.k = omega arith in
    let bytes = bytes_of (goal.at.overflow_mul-last c).After-body_bytes in
    omega (arith, bytes, room_whole c.requires.room some)

pub overflow_add-last-2 : goal.overflow_add-last-2
overflow_add-last-2 c =
    let some : 0 < c.args.k = omega arith in
    let bytes = bytes_of (goal.at.overflow_add-last-2 c).After-body_bytes in
    omega (arith, bytes, room_whole c.requires.room some)

pub overflow_add-numbers : goal.overflow_add-numbers
overflow_add-numbers c =
    let some : 0 < c.args.k = omega arith in
    let bytes = bytes_of (goal.at.overflow_add-numbers c).After-body_bytes in
    omega (arith, bytes, room_whole c.requires.room some)

pub put_head-requires : goal.put_head-requires
put_head-requires c =
    let some : 0 < c.args.k = omega arith in
    let bytes = bytes_of (goal.at.put_head-requires c).After-body_bytes in
    omega (arith, bytes, room_whole c.requires.room some)

pub put_words-requires : goal.put_words-requires
put_words-requires c =
    let some : 0 < c.args.k = omega arith in
    let bytes = bytes_of (goal.at.put_words-requires c).After-body_bytes in
    let r = c.requires.room in (omega (arith, bytes, room_whole r some), omega (arith, room-params r some))

pub returns : goal.returns
returns c =
    let some : 0 < c.args.k = omega arith in
    let body = body_of (goal.at.returns c).After-body_bytes in
    c.put_words.ensures
    ∙ rw (c.put_head.ensures, c.put_curves.ensures, c.put_marks.ensures, body, c.field_for-field.ensures) (put_whole c.args.tolerance c.requires.mark_numbers_len c.requires.room some)
