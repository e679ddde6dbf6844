-- `writer::records::put_curve` meets its contract.
use mathlib.Core.Path.{ap, ◌∙◌}
use Prim.Native.Nat.{ℕ, ◌+◌, ◌*◌, ◌≤◌}
use native.Mathlib.Omega.{arith}
use lib.ListN.{length, drop, length-take, length-drop}
use Rattle.form.specs.Form.{width, worsts_for}
use Rattle.house.specs.Limits.{worst_marks}
use Rattle.house.proofs.Forms.{body-few, worsts-each}
use Rattle.grammar.proofs.Curves.{curve-put}
use Rattle.writer.proofs.Turns.{some_of}
use Rattle.writer.proofs.records.put_curve.Goals as goal
use Rattle.writer.proofs.records.put_curve.Goals.{After-width-n}

-- a curve's numbers are within the slice
numbers_of : (c : After-width-n) → let a = c.args in c.width-n.result * a.i + c.width-n.result ≤ length a.curves.now
numbers_of c = let a = c.args in omega (arith, ap (λ (x : ℕ). x * a.i + x) c.width-n.ensures, c.requires.1.1.1)

pub overflow_add-size : goal.overflow_add-size
overflow_add-size c = omega (arith, body-few c.args.form c.args.field, c.body_bytes-size.ensures)

pub put_head-requires : goal.put_head-requires
put_head-requires c = omega (arith, c.requires.0)

pub overflow_add-body : goal.overflow_add-body
overflow_add-body c = omega (arith, c.requires.0)

pub put_beside-requires : goal.put_beside-requires
put_beside-requires c = (omega (arith, c.requires.0), (c.requires.1.0, c.requires.1.1.0))

pub overflow_add-numbers : goal.overflow_add-numbers
overflow_add-numbers c = omega (arith, c.beside_bytes.ensures, c.requires.0)

pub overflow_mul-j : goal.overflow_mul-j
overflow_mul-j c =
    let numbers = numbers_of (goal.at.overflow_mul-j c).After-width-n in
    omega (arith, numbers)

pub offset_bounds-curves-j : goal.offset_bounds-curves-j
offset_bounds-curves-j c =
    let numbers = numbers_of (goal.at.offset_bounds-curves-j c).After-width-n in
    omega (arith, numbers)

pub slice_bounds-put_words-count : goal.slice_bounds-put_words-count
slice_bounds-put_words-count c =
    let numbers = numbers_of (goal.at.slice_bounds-put_words-count c).After-width-n in
    omega (arith, numbers)

pub slice_bounds-put_words-start : goal.slice_bounds-put_words-start
slice_bounds-put_words-start c =
    let numbers = numbers_of (goal.at.slice_bounds-put_words-start c).After-width-n in
    omega (arith, numbers)

pub slice_bounds-put_words-end : goal.slice_bounds-put_words-end
slice_bounds-put_words-end c =
    let numbers = numbers_of (goal.at.slice_bounds-put_words-end c).After-width-n in
    omega (arith, numbers)

pub put_words-requires : goal.put_words-requires
put_words-requires c =
    let numbers = numbers_of (goal.at.put_words-requires c).After-width-n in
    (omega (arith, c.beside_bytes.ensures, c.width-n.ensures, c.requires.0), simp (length-take, length-drop) (omega (arith, numbers)))

pub returns : goal.returns
returns c =
    let a = c.args in
    let w : worst_marks a.form ≤ length (drop (worsts_for a.form a.i) a.worsts.now) = simp length-drop (omega (arith, worsts-each a.form a.i, worsts-each a.form (a.i + 1), c.requires.1.1.0)) in
    let n : width a.form ≤ length (drop (width a.form * a.i) a.curves.now) = simp length-drop (omega (arith, c.requires.1.1.1)) in
    c.put_words.ensures
    ∙ rw (c.put_beside.ensures, c.put_head.ensures, c.body_bytes-size.ensures, c.curve_kind.ensures, c.beside_bytes.ensures, c.width-n.ensures, some_of (width a.form) a.curves.now (width a.form * a.i)) (curve-put a.form a.field a.out.now a.at _ _ _ w n)
