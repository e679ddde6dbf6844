-- `unpacker::records::put_unpacked` meets its contract.
use mathlib.Core.Path.{◌≡◌, sym, ap, ◌∙◌}
use Prim.Native.Nat.{ℕ, ◌+◌, ◌*◌, ◌-◌, ◌≤◌}
use native.Mathlib.Omega.{arith}
use lib.ListN.{length, take, drop, length-take, length-drop}
use lib.Seq.{take_all, length-take-le}
use Rattle.house.specs.declared.sizes.Field.{Field}
use Rattle.house.specs.Limits.{field_for, body_bytes, curve_bytes}
use Rattle.house.proofs.Forms.{body-few}
use Rattle.grammar.proofs.Rooms.{size_some}
use Rattle.packed.specs.Unpacked.{entry_at}
use Rattle.unpacker.proofs.Whole.{length_packed, put_packed_is}
use Rattle.unpacker.proofs.records.put_unpacked.Goals as goal
use Rattle.unpacker.proofs.records.put_unpacked.Goals.{After-body_bytes, Start}

-- the file's length, the room, and the lengths of a body and of the records, as they were worked out
whole_of : (c : Start) → let a = c.args in length a.file.now ≡ entry_at a.form a.n a.k + 6 + 8 * a.n
whole_of c = let s = c in length_packed s.args.file.now s.args.form s.args.n s.args.k s.requires.0 s.requires.1.0

room_of : (c : Start) → let a = c.args in 20 + 16 * a.n + curve_bytes a.form (field_for a.n) * a.k + 6 + 8 * a.n ≤ length a.out.now
room_of c = let s = c in omega (arith, size_some s.args.form s.args.n s.requires.0, s.requires.1.1)

body_of : (c : After-body_bytes) → let a = c.args in c.body_bytes.result ≡ body_bytes a.form (field_for a.n)
body_of c = c.body_bytes.ensures ∙ ap (λ (f : Field). body_bytes c.args.form f) c.field_for-field.ensures

records_of : (c : After-body_bytes) → let a = c.args in (6 + c.body_bytes.result) * a.k ≡ curve_bytes a.form (field_for a.n) * a.k
records_of c = ap (λ (x : ℕ). (6 + x) * c.args.k) (body_of c)

pub overflow_mul-end : goal.overflow_mul-end
overflow_mul-end c =
    let whole = whole_of (goal.at.overflow_mul-end c).Start in
    omega (arith, whole)

pub overflow_add-end : goal.overflow_add-end
overflow_add-end c =
    let whole = whole_of (goal.at.overflow_add-end c).Start in
    omega (arith, whole)

pub overflow_add-last : goal.overflow_add-last
overflow_add-last c =
    let body = body_of (goal.at.overflow_add-last c).After-body_bytes in
    let a = c.args in omega (arith, body-few a.form (field_for a.n), body)

pub overflow_mul-last : goal.overflow_mul-last
overflow_mul-last c =
    let room = room_of (goal.at.overflow_mul-last c).Start in
    let records = records_of (goal.at.overflow_mul-last c).After-body_bytes in
    omega (arith, records, room)

pub overflow_add-last-2 : goal.overflow_add-last-2
overflow_add-last-2 c =
    let room = room_of (goal.at.overflow_add-last-2 c).Start in
    let records = records_of (goal.at.overflow_add-last-2 c).After-body_bytes in
    omega (arith, records, room)

pub entry_at-params-requires : goal.entry_at-params-requires
entry_at-params-requires c =
    let whole = whole_of (goal.at.entry_at-params-requires c).Start in
    omega (arith, whole)

pub slice_bounds-put_bytes-end : goal.slice_bounds-put_bytes-end
slice_bounds-put_bytes-end c =
    let whole = whole_of (goal.at.slice_bounds-put_bytes-end c).Start in
    let a = c.args in sym (length-take-le (20 + 16 * a.n) a.file.now (omega (arith, whole)))

pub put_bytes-requires : goal.put_bytes-requires
put_bytes-requires c =
    let room = room_of (goal.at.put_bytes-requires c).Start in
    simp (length-take) (omega (arith, room))

pub put_curves-requires : goal.put_curves-requires
put_curves-requires c =
    let whole = whole_of (goal.at.put_curves-requires c).Start in
    let room = room_of (goal.at.put_curves-requires c).Start in
    rw c.field_for-field.ensures (omega (arith, whole), omega (arith, room))

pub slice_bounds-put_bytes-count : goal.slice_bounds-put_bytes-count
slice_bounds-put_bytes-count c =
    let whole = whole_of (goal.at.slice_bounds-put_bytes-count c).Start in
    omega (arith, c.entry_at-params.ensures, whole)

pub slice_bounds-put_bytes-start : goal.slice_bounds-put_bytes-start
slice_bounds-put_bytes-start c =
    let whole = whole_of (goal.at.slice_bounds-put_bytes-start c).Start in
    omega (arith, c.entry_at-params.ensures, whole)

pub slice_bounds-put_bytes-end-2 : goal.slice_bounds-put_bytes-end-2
slice_bounds-put_bytes-end-2 c =
    let whole = whole_of (goal.at.slice_bounds-put_bytes-end-2 c).Start in
    omega (arith, c.entry_at-params.ensures, whole)

pub put_bytes-requires-2 : goal.put_bytes-requires-2
put_bytes-requires-2 c =
    let whole = whole_of (goal.at.put_bytes-requires-2 c).Start in
    let room = room_of (goal.at.put_bytes-requires-2 c).Start in
    let records = records_of (goal.at.put_bytes-requires-2 c).After-body_bytes in
    simp (length-take, length-drop) (omega (arith, c.entry_at-params.ensures, whole, records, room))

pub returns : goal.returns
returns c =
    let body = body_of (goal.at.returns c).After-body_bytes in
    let a = c.args in
    let b = a.file.now in
    let p = entry_at a.form a.n a.k in
    let t : take (length b - p) (drop p b) ≡ drop p b = take_all (length b - p) (drop p b) (simp length-drop (omega arith)) in
    c.put_bytes-2.ensures.1 ∙ rw (c.put_curves.ensures, c.put_bytes.ensures.1, body, c.field_for-field.ensures, c.entry_at-params.ensures, t) (put_packed_is b a.form a.n a.k c.requires.0 c.requires.1.0 a.out.now c.requires.1.1)
