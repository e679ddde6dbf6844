-- What each way through the listing shows. Assumes nothing.
use mathlib.Core.Path.{◌≡◌, refl, sym}
use mathlib.Core.List.{List}
use Prim.Native.Nat.{ℕ, ◌*◌, ◌/◌, ◌<◌, ◌≤◌}
use native.Mathlib.Omega.{arith}
use borrow.Author.Tests.{le-leb, lt-leb}
use lib.Dec.{leb}
use lib.ListN.{length, take, drop}
use Rattle.float.specs.Answer.{Answer, ok, refused, unless}
use lib.Ieee.{Float}
use Rattle.std.proofs.Common.{None}
use Rattle.fit.specs.Fit.{Ending}
use Rattle.lines.specs.Lines.{outline_lines, refusal_line}
use Rattle.lines.specs.Handed.{shown}
use Rattle.house.specs.Bytes.{num, words}
use Rattle.house.specs.File.{File}
use Rattle.house.specs.Held.{file_at}
use Rattle.house.proofs.Rows.{length-words}
use Rattle.form.specs.declared.Form.{Form}
use Rattle.form.specs.declared.Form.TheVariants.{Eight}
use Rattle.packed.specs.Unpacked.{held_of}
use Rattle.packed_heads.specs.declared.Joints.{Joints}
use Rattle.packed_heads.specs.declared.Joints.TheVariants.{Twice, Once}
use Rattle.packed_heads.specs.Layout.{held_layout_of}
use Rattle.packed_heads.proofs.Told.{HeldTold, held_untold}
use Rattle.desk.specs.Desk.{zeros, no_marks}
use Rattle.file_fit.specs.FileFit.{file_fit, Left}
use Rattle.outline.specs.Outline.{fit_lines, roomy_fit, lines_of, listing_of}
use Rattle.outline.proofs.Counts.{fit_count}

-- ---- refusals before the fit

pub list_long : (b : List ℕ) → 65536 < length b → listing_of b ≡ refusal_line 9
unfolding lines_of
list_long b h = rw (lt-leb (length b) 65536 h)

pub list_broken : (b : List ℕ) → length b ≤ 65536 → held_layout_of b ≡ None → listing_of b ≡ refusal_line 9
unfolding lines_of
list_broken b h e = rw (le-leb (length b) 65536 h, held_untold b e)

-- what n marks give
abbrev lines_for : List ℕ → ℕ → Answer (List ℕ)
lines_for b n = unless 1 (leb 2 n) (unless 2 (leb n 512) (fit_lines n (roomy_fit (file_at b Eight n 0))))

lines_by : (b : List ℕ) (n : ℕ) (F : File) → length b ≤ 65536 → held_of b ≡ ok F → F.tolerance ≡ num 8 b 6 → F.marks ≡ words (2 * n) (drop 20 b) → lines_of b ≡ lines_for b n
unfolding lines_of roomy_fit file_fit
lines_by b n F h e t m =
    let half : 2 * n / 2 ≡ n = omega arith in
    simp (le-leb (length b) 65536 h, e, t, m, length-words, half)

-- in either form the tolerance and the marks stand at the same places
lines_at : (b : List ℕ) (joints : Joints) (form : Form) (n k : ℕ) → length b ≤ 65536 → HeldTold b joints form n k → lines_of b ≡ lines_for b n
lines_at b Twice form n k h t = lines_by b n _ h t.file refl refl
lines_at b Once form n k h t = lines_by b n _ h t.file refl refl

module _ {b : List ℕ} {joints : Joints} {form : Form} {n k : ℕ} (h : length b ≤ 65536) (t : HeldTold b joints form n k) where
  pub list-few : n < 2 → listing_of b ≡ refusal_line 1
  list-few f = rw (lines_at b joints form n k h t, lt-leb 2 n f)

  pub list_many : 512 < n → listing_of b ≡ refusal_line 2
  list_many m = rw (lines_at b joints form n k h t, le-leb 2 n (omega arith), lt-leb n 512 m)

  pub list-fit : 2 ≤ n → n ≤ 512 → listing_of b ≡ shown (fit_lines n (roomy_fit (file_at b Eight n 0)))
  list-fit f m = rw (lines_at b joints form n k h t, le-leb 2 n f, le-leb n 512 m)

-- ---- what a fit shows

pub fit-done : (n : ℕ) (E : Ending) (k : ℕ) → E.answer ≡ ok k → shown (fit_lines n E) ≡ outline_lines n (take k E.firsts) E.curves
unfolding fit_lines
fit-done n E k e = rw e

pub fit_refused : (n : ℕ) (E : Ending) (q : ℕ) → E.answer ≡ refused q → shown (fit_lines n E) ≡ refusal_line q
unfolding fit_lines
fit_refused n E q e = rw e

module _ (b : List ℕ) (n : ℕ) (C : List Float) (P : List ℕ) where
  same_fit : C ≡ zeros 4599 → P ≡ no_marks 511 → file_fit (file_at b Eight n 0) C P (no_marks 511) (zeros 512) ≡ roomy_fit (file_at b Eight n 0)
  unfolding roomy_fit
  same_fit e_c eP = rw (e_c, eP)

  module _ {C' : List Float} {P' : List ℕ} {k : ℕ} where
    -- there are no more curves than places
    pub done-count : Left (file_fit (file_at b Eight n 0) C P (no_marks 511) (zeros 512)) (ok k) C' P' → k ≤ length P'
    done-count l = rw l.firsts (fit_count (file_at b Eight n 0) C P (no_marks 511) (zeros 512) k (sym l.answer))

    pub done_lines : Left (file_fit (file_at b Eight n 0) C P (no_marks 511) (zeros 512)) (ok k) C' P' → C ≡ zeros 4599 → P ≡ no_marks 511 → shown (fit_lines n (roomy_fit (file_at b Eight n 0))) ≡ outline_lines n (take k P') C'
    done_lines l e_c eP = rw (← same_fit e_c eP, l.firsts, l.curves) (fit-done n (file_fit (file_at b Eight n 0) C P (no_marks 511) (zeros 512)) k (sym l.answer))

    pub refused_lines : Left (file_fit (file_at b Eight n 0) C P (no_marks 511) (zeros 512)) (refused k) C' P' → C ≡ zeros 4599 → P ≡ no_marks 511 → shown (fit_lines n (roomy_fit (file_at b Eight n 0))) ≡ refusal_line k
    refused_lines l e_c eP = rw (← same_fit e_c eP) (fit_refused n (file_fit (file_at b Eight n 0) C P (no_marks 511) (zeros 512)) k (sym l.answer))
