-- The file that is written: how long its lists are, and its bytes as the records are put one behind the other. Assumes nothing.
use mathlib.Core.Path.{◌≡◌, sym, ◌∙◌}
use mathlib.Core.List.{List, [], ◌∷◌, ◌++◌, append_assoc, append-nil}
use Prim.Native.Nat.{ℕ, ◌+◌, ◌*◌, ◌/◌, ◌%◌, ◌<◌, ◌≤◌}
use native.Mathlib.Omega.{arith}
use lib.ListN.{length, take, length-append}
use lib.Seq.{length-take-le, sets}
use Rattle.form.specs.declared.Form.{Form}
use Rattle.form.specs.Form.{width, worsts_for}
use Rattle.house.specs.Limits.{field_for, curve_bytes}
use Rattle.house.specs.Bytes.{le, les}
use Rattle.house.specs.File.{File, rec, flat, curve_records, bytes_of, form_for, params_for}
use Rattle.float.specs.Slices.{written}
use Rattle.writer.specs.Writer.{file_for}
use Rattle.house.specs.Layout.{Room, size_for}
use Rattle.house.proofs.Forms.{worsts-each, form_some, worsts-formed, width-formed, size-formed}
use Rattle.house.proofs.Numbers.{length-le}
use Rattle.house.proofs.Rows.{length-les}
use Rattle.grammar.proofs.Curves.{length-flat}
use Rattle.grammar.proofs.Formed.{Sized, params_some}
use Rattle.grammar.proofs.Whole.{bytes_are, rest_none, rest_some, length-bytes}
use Rattle.grammar.proofs.Rooms.{Places, room-params}
use Rattle.text.proofs.Stores.{sets_append, written-sets}

module _ (form : Form) (t : ℕ) (M : List ℕ) (k : ℕ) (P W C Q : List ℕ) (even : length M % 2 ≡ 0) (s : Places form (length M / 2) k (length P) (length W) (length C) (length Q)) where
  pub sized_for : Sized (file_for form t M k P W C Q) (length M / 2) k
  unfolding file_for
  sized_for = record {
    marks = omega arith;
    firsts = length-take-le k P s.firsts;
    worsts = length-take-le (worsts_for form k) W s.worsts ∙ sym (worsts-formed form k);
    curves = length-take-le (width form * k) C s.curves ∙ sym (width-formed form k);
    params = length-take-le (params_for (length M / 2) k) Q s.params;
  }

  pub length_for : length (bytes_of (file_for form t M k P W C Q)) ≡ size_for form (length M / 2) k
  unfolding file_for
  length_for = length-bytes sized_for ∙ size-formed form (length M / 2) k

module _ {form : Form} {M : List ℕ} {k : ℕ} {P W C Q O : List ℕ} (t : ℕ) (even : length M % 2 ≡ 0) (r : Room form (length M / 2) k O M P W C Q) where
  abbrev n : ℕ
  n = length M / 2

  abbrev F : File
  F = file_for form t M k P W C Q

  abbrev start : List ℕ
  start = flat (rec 1 (le 8 t) ∷ (rec 2 (les M) ∷ []))

  fits : Places form n k (length P) (length W) (length C) (length Q)
  fits = record { firsts = r.firsts; worsts = r.worsts; curves = r.curves; params = r.params }

  whole : length (bytes_of F) ≤ length O
  whole = omega (arith, length_for form t M k P W C Q even fits, r.bytes)

  -- kinds 1 and 2 alone
  pub put-plain : k ≡ 0 → sets O 0 start ≡ written (bytes_of F) O
  unfolding file_for flat
  put-plain e =
      let none : length (take k P) ≡ 0 = length-take-le k P r.firsts ∙ e in
      let z : bytes_of F ≡ start = bytes_are F ∙ rw (rest_none (form_for form k) (field_for n) (take k P) (take (worsts_for form k) W) (take (width form * k) C) (take (params_for n k) Q) none) in
      rw (← z) (written-sets (bytes_of F) O whole)

  -- all four kinds, one behind the other
  module _ (some : 0 < k) where
    abbrev curves : List ℕ
    curves = flat (curve_records form (field_for n) (take k P) (take (worsts_for form k) W) (take (width form * k) C))

    abbrev head : List ℕ
    head = le 4 (2 + 8 * n) ++ le 2 4

    length-params : length (les (take n Q)) ≡ 8 * n
    length-params = length-les (take n Q) ∙ rw (length-take-le n Q (room-params r some))

    length-firsts : length (take k P) ≡ k
    length-firsts = length-take-le k P r.firsts

    whole_is : bytes_of F ≡ ((start ++ curves) ++ head) ++ les (take n Q)
    unfolding file_for flat
    whole_is =
        let p : params_for n k ≡ n = params_some n some in
        let e = rest_some form (field_for n) (take k P) (take (worsts_for form k) W) (take (width form * k) C) (take n Q) (rw length-firsts some) in
        bytes_are F ∙ rw (form_some form some, p, e) (simp (append_assoc, append-nil, length-params))

    pub put_whole : sets (sets (sets (sets O 0 start) (20 + 16 * n) curves) (20 + 16 * n + curve_bytes form (field_for n) * k) head) (20 + 16 * n + curve_bytes form (field_for n) * k + 6) (les (take n Q)) ≡ written (bytes_of F) O
    unfolding flat
    put_whole =
        let a : length start ≡ 20 + 16 * n = simp (length-append, length-le, length-les) (omega (arith, even)) in
        let c : length curves ≡ curve_bytes form (field_for n) * k =
        length-flat form (field_for n) (take k P) (take (worsts_for form k) W) (take (width form * k) C) (rw length-firsts (length-take-le (worsts_for form k) W r.worsts ∙ worsts-each form k)) (rw length-firsts (length-take-le (width form * k) C r.curves))
        ∙ rw length-firsts in
        let h : length head ≡ 6 = simp (length-append, length-le) in
        let p1 : 0 + length start ≡ 20 + 16 * n = omega arith in
        let p2 : 0 + length (start ++ curves) ≡ 20 + 16 * n + curve_bytes form (field_for n) * k = simp (length-append start curves, a, c) (omega arith) in
        let p3 : 0 + length ((start ++ curves) ++ head) ≡ 20 + 16 * n + curve_bytes form (field_for n) * k + 6 = simp (length-append (start ++ curves) head, length-append start curves, a, c, h) (omega arith) in
        let s1 = sets_append start curves O 0 in
        let s2 = sets_append (start ++ curves) head O 0 in
        let s3 = sets_append ((start ++ curves) ++ head) (les (take n Q)) O 0 in
        sym (rw (p3, s2, p2, s1, p1) at s3) ∙ rw (← whole_is) (written-sets (bytes_of F) O whole)
