-- What each way through the writer answers. Assumes nothing.
use mathlib.Core.Path.{◌≡◌, sym, ap, ap₂, ◌∙◌}
use mathlib.Core.Bool.{Bool, true, false, ◌&&◌}
use mathlib.Core.List.{List}
use Prim.Native.Nat.{ℕ, ◌/◌, ◌%◌, ◌<◌, ◌≤◌}
use borrow.Author.Tests.{le-leb, lt-leb, eq-eqb, ne_eqb}
use lib.ListN.{length}
use Rattle.float.specs.Answer.{ok, refused}
use Rattle.form.specs.declared.Form.{Form}
use Rattle.limits.specs.Limits.{most_marks}
use Rattle.house.specs.File.{File, bytes_of, fewer}
use Rattle.float.specs.Slices.{written}
use Rattle.house.specs.Slices.{room}
use Rattle.writer.specs.Writer.{file_for, marks_fit, checked, Writing, writing, write_of}
use Rattle.house.specs.Layout.{size_for}
use Rattle.house.proofs.Numbers.{split}
use Rattle.grammar.proofs.Rooms.{places}
use Rattle.writer.proofs.Accepted.{Sound, write_accepts}
use Rattle.writer.proofs.Puts.{length_for}

-- what the writer is called with
pub record Call : Type 0 where
  pub form : Form
  pub tolerance : ℕ
  pub marks : List ℕ
  pub count : ℕ
  pub firsts : List ℕ
  pub worsts : List ℕ
  pub curves : List ℕ
  pub params : List ℕ
  pub out : List ℕ

module _ (w : Call) where
  abbrev marked : ℕ
  marked = length w.marks / 2

  abbrev file : File
  file = file_for w.form w.tolerance w.marks w.count w.firsts w.worsts w.curves w.params

  abbrev answers : Writing
  answers = write_of w.form w.tolerance w.marks w.count w.firsts w.worsts w.curves w.params w.out

  abbrev roomed : Bool
  roomed = room w.form marked w.count (length w.firsts) (length w.worsts) (length w.curves) (length w.params)

  abbrev holdable : Bool
  holdable = fewer w.count marked && marks_fit w.form marked w.count w.firsts w.worsts

  pub write_odd : (length w.marks % 2 ≡ 0 → ⊥) → writing (refused 3) w.out ≡ answers
  unfolding write_of checked
  write_odd h = rw (ne_eqb (length w.marks % 2) 0 h)

  module _ (even : length w.marks % 2 ≡ 0) where
    pub write_many : most_marks < marked → writing (refused 2) w.out ≡ answers
    unfolding write_of checked
    write_many h = rw (eq-eqb (length w.marks % 2) 0 even, lt-leb marked most_marks h)

    module _ (few : marked ≤ most_marks) where
      pub write_short : roomed ≡ false → writing (refused 4) w.out ≡ answers
      unfolding write_of checked
      write_short h = rw (eq-eqb (length w.marks % 2) 0 even, le-leb marked most_marks few, h)

      module _ (roomy : roomed ≡ true) where
        size_is : length (bytes_of file) ≡ size_for w.form marked w.count
        size_is = length_for w.form w.tolerance w.marks w.count w.firsts w.worsts w.curves w.params even (places w.form marked w.count _ _ _ _ roomy)

        pub write_small : length w.out < size_for w.form marked w.count → writing (refused 4) w.out ≡ answers
        unfolding write_of checked
        write_small h = rw (eq-eqb (length w.marks % 2) 0 even, le-leb marked most_marks few, roomy, size_is, lt-leb (size_for w.form marked w.count) (length w.out) h)

        module _ (whole : size_for w.form marked w.count ≤ length w.out) where
          pub write_unfit : holdable ≡ false → writing (refused 9) w.out ≡ answers
          unfolding write_of checked
          write_unfit h = rw (eq-eqb (length w.marks % 2) 0 even, le-leb marked most_marks few, roomy, size_is, le-leb (size_for w.form marked w.count) (length w.out) whole, h)

          pub write_done : holdable ≡ true → {s : ℕ} {O' : List ℕ} → s ≡ size_for w.form marked w.count → O' ≡ written (bytes_of file) w.out → writing (ok s) O' ≡ answers
          write_done fit es eo =
              let f = split _ _ fit in
              let g = split _ _ f.1 in
              let sound : Sound w.form w.marks w.count w.firsts w.worsts w.curves w.params =
              record { even = even; few = few; places = places w.form marked w.count _ _ _ _ roomy; fewer = f.0; firsts = g.0; worsts = g.1 } in
              ap₂ writing (ap ok (es ∙ sym size_is)) eo ∙ sym (write_accepts w.tolerance w.out sound (rw size_is whole))
