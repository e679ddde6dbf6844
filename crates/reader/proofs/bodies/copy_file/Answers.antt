-- `reader::bodies::copy_file` meets its contract.
use mathlib.Core.Path.{◌≡◌, ap, ◌∙◌}
use Prim.Native.Nat.{ℕ, ◌+◌, ◌*◌, ◌<◌}
use native.Mathlib.Omega.{arith}
use Rattle.house.specs.declared.sizes.Field.{Field}
use Rattle.house.specs.Limits.{field_for, body_bytes, curve_bytes}
use Rattle.house.specs.Bytes.{row}
use Rattle.house.specs.Held.{in_each}
use Rattle.house.proofs.Forms.{body-few}
use Rattle.grammar.proofs.Rooms.{room_start, room_whole, room-params}
use Rattle.reader.proofs.Turns.{params_by}
use Rattle.reader.proofs.bodies.copy_file.Goals as goal
use Rattle.reader.proofs.bodies.copy_file.Goals.{After-body_bytes-step}

-- the lengths of a body and of the curves, as they were worked out
body_of : (c : After-body_bytes-step) → c.body_bytes-step.result ≡ body_bytes c.args.form (field_for c.args.n)
body_of c = c.body_bytes-step.ensures ∙ ap (λ (f : Field). body_bytes c.args.form f) c.field_for-field.ensures

bytes_of : (c : After-body_bytes-step) → (6 + c.body_bytes-step.result) * c.args.k ≡ curve_bytes c.args.form (field_for c.args.n) * c.args.k
bytes_of c = ap (λ (x : ℕ). (6 + x) * c.args.k) (body_of c)

pub copy_words-requires : goal.copy_words-requires
copy_words-requires c = let r = c.requires in (omega (arith, room_start r), r.marks)

pub returns-then-k-eq0 : goal.returns-then-k-eq0
unfolding row in_each
returns-then-k-eq0 c = let e = c.if-k-eq0.true in record { marks = c.copy_words.ensures; firsts = rw e; worsts = rw e; curves = rw e; params = rw e }

pub copy_curves-requires : goal.copy_curves-requires
copy_curves-requires c =
    let some : 0 < c.args.k = omega arith in
    let r = c.requires in rw c.field_for-field.ensures (omega (arith, room_whole r some), (r.firsts, (r.worsts, r.curves)))

pub overflow_add-step : goal.overflow_add-step
overflow_add-step c =
    let body = body_of (goal.at.overflow_add-step c).After-body_bytes-step in
    omega (arith, body-few c.args.form (field_for c.args.n), body)

pub overflow_mul-last : goal.overflow_mul-last
overflow_mul-last c =
    let some : 0 < c.args.k = omega arith in
    let bytes = bytes_of (goal.at.overflow_mul-last c).After-body_bytes-step in
    omega (arith, bytes, room_whole c.requires some)

pub overflow_add-last : goal.overflow_add-last
overflow_add-last c =
    let some : 0 < c.args.k = omega arith in
    let bytes = bytes_of (goal.at.overflow_add-last c).After-body_bytes-step in
    omega (arith, bytes, room_whole c.requires some)

pub overflow_add-last-2 : goal.overflow_add-last-2
overflow_add-last-2 c =
    let some : 0 < c.args.k = omega arith in
    let bytes = bytes_of (goal.at.overflow_add-last-2 c).After-body_bytes-step in
    omega (arith, bytes, room_whole c.requires some)

pub copy_words-requires-2 : goal.copy_words-requires-2
copy_words-requires-2 c =
    let some : 0 < c.args.k = omega arith in
    let bytes = bytes_of (goal.at.copy_words-requires-2 c).After-body_bytes-step in
    let r = c.requires in (omega (arith, bytes, room_whole r some), omega (arith, room-params r some))

pub returns : goal.returns
returns c =
    let some : 0 < c.args.k = omega arith in
    let body = body_of (goal.at.returns c).After-body_bytes-step in
    let s = rw c.field_for-field.ensures at c.copy_curves.ensures in
    let a = c.args in
    record {
      marks = c.copy_words.ensures;
      firsts = s.0;
      worsts = s.1.0;
      curves = s.1.1;
      params = params_by a.b.now a.form a.n a.k a.params.now some body c.copy_words-2.ensures;
    }
