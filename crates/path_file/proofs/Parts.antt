-- The fit of a file, and the line of its curves. Assumes nothing.
use mathlib.Core.Path.{◌≡◌, refl, sym, ap, ◌∙◌}
use mathlib.Core.Bool.{Bool}
use mathlib.Core.List.{List, ◌++◌}
use Prim.Native.Nat.{ℕ, ◌+◌, ◌*◌, ◌≤◌}
use native.Mathlib.Omega.{arith}
use lib.ListN.{length, take, drop}
use lib.Seq.{sets}
use lib.Ieee.{Float, binary64, of_bits}
use Rattle.float.specs.Answer.{Answer, ok, refused}
use Rattle.float.specs.Slices.{written}
use Rattle.form.specs.declared.Form.TheVariants.{Eight, Nine}
use Rattle.fit.specs.Fit.{Ending, ending, fit_of}
use Rattle.text.specs.Put.{Put}
use Rattle.text.proofs.Stores.{next}
use Rattle.lines.specs.Lines.{newline}
use Rattle.lines.specs.Handed.{Handed, handed, over_to}
use Rattle.lines.proofs.Handed.{over-whole}
use Rattle.house.specs.Bytes.{num, words}
use Rattle.house.specs.Held.{file_at}
use Rattle.desk.specs.Desk.{zeros, no_marks, floats}
use Rattle.file_fit.proofs.Turns.{floats-front}
use Rattle.export.specs.Export.{export_text, export_of}
use Rattle.float.proofs.Answers.{not_refused}
use Rattle.export.proofs.Exported.{exported_short}
use Rattle.path_file.specs.PathFile.{cutting_for, ring_fit, line_of}
use Rattle.path_file.specs.Left.{Left}

-- what the fit left, in the definition's words
pub fit_left_is : (ring : Bool) (b : List ℕ) (n : ℕ) (l M C : List Float) (P W : List ℕ) (Q : List Float) (w : ℕ) (t : Float) (X : Answer ℕ) (C' : List Float) (P' W' : List ℕ) (Q' : List Float)
    → M ≡ written (floats (words (2 * n) (drop 20 b))) l
    → w ≡ num 8 b 6
    → t ≡ of_bits binary64 w
    → C ≡ zeros 4608
    → P ≡ no_marks 512
    → W ≡ no_marks 512
    → Q ≡ zeros 513
    → ending X C' P' W' Q' ≡ fit_of (cutting_for ring) (take (2 * n) M) t C P W Q
    → Left (ring_fit ring (file_at b Eight n 0)) X C'
unfolding ring_fit
fit_left_is ring b n l M C P W Q w t X C' P' W' Q' eM ew et e_c eP e_w eQ h =
    let m : take (2 * n) M ≡ floats (words (2 * n) (drop 20 b)) = rw eM (floats-front (2 * n) (drop 20 b) l) in
    let q : ending X C' P' W' Q' ≡ fit_of (cutting_for ring) (floats (words (2 * n) (drop 20 b))) (of_bits binary64 (num 8 b 6)) (zeros 4608) (no_marks 512) (no_marks 512) (zeros 513) = h ∙ rw (m, et, ew, e_c, eP, e_w, eQ) in
    record { answer = ap (λ (E : Ending). E.answer) q; curves = ap (λ (E : Ending). E.curves) q }

-- ---- what export left

module _ (ring : Bool) (C : List Float) (k : ℕ) (O : List ℕ) (c : 4608 ≡ length C) (o : 47138 ≤ length O) where
  -- a text has room
  short : (t : List ℕ) → export_text Nine C k ring ≡ ok t → length t + 1 ≤ 47138
  short t e = let s = exported_short Nine C k ring t e in omega (arith, s.0, s.1)

  -- the text that export put, or its refusal
  pub record Text (s : ℕ) (O' : List ℕ) : Type 0 where
    pub text : List ℕ
    pub is : export_text Nine C k ring ≡ ok text
    pub put : Put O 0 text O' s
    pub room : s + 1 ≤ 47138

  given : (a : Answer (List ℕ)) {s : ℕ} {O' : List ℕ} → export_text Nine C k ring ≡ a → handed (ok s) O' ≡ over_to O a → Text s O'
  given (refused q) e h = not_refused q (ap (λ (H : Handed). H.answer) h)
  given (ok t) {s} {O'} e h =
      let z = short t e in
      let w : handed (ok s) O' ≡ handed (ok (length t)) (sets O 0 t) = h ∙ sym (over-whole t O (omega arith) (zero-add (length t), refl)) in
      let n : s ≡ length t = same_ok (ap (λ (H : Handed). H.answer) w) in
      record { text = t; is = e; put = record { end = omega arith; out = ap (λ (H : Handed). H.out) w }; room = omega arith }
    where
      zero-add : (n : ℕ) → n ≡ 0 + n
      zero-add n = omega arith

      same_ok : {a b : ℕ} → ok a ≡ ok b → a ≡ b
      same_ok z = cc

  pub bytes : {s : ℕ} {O' : List ℕ} → handed (ok s) O' ≡ export_of Nine C k ring O → Text s O'
  unfolding export_of
  bytes h = given (export_text Nine C k ring) refl h

  pub record None (q : ℕ) (O' : List ℕ) : Type 0 where
    pub is : line_of ring C k ≡ refused q
    pub out : O' ≡ O

  denied : (a : Answer (List ℕ)) {q : ℕ} {O' : List ℕ} → export_text Nine C k ring ≡ a → handed (refused q) O' ≡ over_to O a → None q O'
  unfolding line_of
  denied (refused p) {q} {O'} e h =
      let n : p ≡ q = same_no (ap (λ (H : Handed). H.answer) h) in
      record { is = rw e (ap refused n); out = ap (λ (H : Handed). H.out) h }
    where
      same_no : {a b : ℕ} → ◌≡◌ {A = Answer ℕ} (refused a) (refused b) → b ≡ a
      same_no z = cc
  denied (ok t) {q} {O'} e h =
      let z = short t e in
      let w : handed (refused q) O' ≡ handed (ok (length t)) (sets O 0 t) = h ∙ sym (over-whole t O (omega arith) (zero-add (length t), refl)) in
      not_refused q (sym (ap (λ (H : Handed). H.answer) w))
    where
      zero-add : (n : ℕ) → n ≡ 0 + n
      zero-add n = omega arith

  pub none : {q : ℕ} {O' : List ℕ} → handed (refused q) O' ≡ export_of Nine C k ring O → None q O'
  unfolding export_of
  none h = denied (export_text Nine C k ring) refl h

  -- the text and a newline
  pub lined : {s e : ℕ} {O' O'' : List ℕ} (x : Text s O') → Put O' s newline O'' e → Put O 0 (x.text ++ newline) O'' e
  lined x p = next x.put p

  pub line_is : {s : ℕ} {O' : List ℕ} (x : Text s O') → line_of ring C k ≡ ok (x.text ++ newline)
  unfolding line_of
  line_is x = rw x.is
