-- What each way through the call shows. Assumes nothing.
use mathlib.Core.Path.{◌≡◌, refl, sym}
use mathlib.Core.Bool.{Bool}
use mathlib.Core.List.{List}
use Prim.Native.Nat.{ℕ, ◌*◌, ◌/◌, ◌<◌, ◌≤◌}
use native.Mathlib.Omega.{arith}
use borrow.Author.Tests.{le-leb, lt-leb}
use lib.Dec.{leb}
use lib.ListN.{length, drop}
use lib.Ieee.{Float}
use Rattle.std.proofs.Common.{Some, None}
use Rattle.float.specs.Answer.{Answer, ok, refused, unless}
use Rattle.fit.specs.Fit.{Ending}
use Rattle.lines.specs.Lines.{refusal_line}
use Rattle.lines.specs.Handed.{shown}
use Rattle.house.specs.Bytes.{num, words}
use Rattle.house.specs.File.{File}
use Rattle.house.specs.Held.{file_at}
use Rattle.house.proofs.Rows.{length-words}
use Rattle.form.specs.declared.Form.{Form}
use Rattle.form.specs.declared.Form.TheVariants.{Eight}
use Rattle.packed.specs.Unpacked.{held_of}
use Rattle.packed_heads.specs.declared.Joints.{Joints}
use Rattle.packed_heads.specs.declared.Joints.TheVariants.{Twice, Once}
use Rattle.packed_heads.specs.declared.Held.{Held}
use Rattle.packed_heads.specs.Layout.{held_layout_of}
use Rattle.packed_heads.proofs.Told.{HeldTold, held_told, held_untold}
use Rattle.path_file.specs.PathFile.{ring_fit, line_of, fit_path, path_line, path_file_of}
use Rattle.path_file.specs.Left.{Left}

-- what a file that was found tells
pub found_is : {b : List ℕ} {h : Held} → Some h ≡ held_layout_of b → HeldTold b h.joints h.layout.form h.layout.marks h.layout.curves
found_is {b} {h} e = held_told b h.joints h.layout.form h.layout.marks h.layout.curves (sym e)

-- ---- refusals before the fit

module _ (ring : Bool) where
  pub path_long : (b : List ℕ) → 65536 < length b → path_file_of ring b ≡ refusal_line 9
  unfolding path_line
  path_long b h = rw (lt-leb (length b) 65536 h)

  pub path_broken : (b : List ℕ) → length b ≤ 65536 → held_layout_of b ≡ None → path_file_of ring b ≡ refusal_line 9
  unfolding path_line
  path_broken b h e = rw (le-leb (length b) 65536 h, held_untold b e)

  -- what n marks give
  abbrev line_for : List ℕ → ℕ → Answer (List ℕ)
  line_for b n = unless 2 (leb n 512) (fit_path ring (ring_fit ring (file_at b Eight n 0)))

  line_by : (b : List ℕ) (n : ℕ) (F : File) → length b ≤ 65536 → held_of b ≡ ok F → F.tolerance ≡ num 8 b 6 → F.marks ≡ words (2 * n) (drop 20 b) → path_line ring b ≡ line_for b n
  unfolding path_line ring_fit
  line_by b n F h e t m =
      let half : 2 * n / 2 ≡ n = omega arith in
      simp (le-leb (length b) 65536 h, e, t, m, length-words, half)

  -- in either form the tolerance and the marks stand at the same places
  line_at : (b : List ℕ) (joints : Joints) (form : Form) (n k : ℕ) → length b ≤ 65536 → HeldTold b joints form n k → path_line ring b ≡ line_for b n
  line_at b Twice form n k h t = line_by b n _ h t.file refl refl
  line_at b Once form n k h t = line_by b n _ h t.file refl refl

  module _ {b : List ℕ} {joints : Joints} {form : Form} {n k : ℕ} (h : length b ≤ 65536) (t : HeldTold b joints form n k) where
    pub path_many : 512 < n → path_file_of ring b ≡ refusal_line 2
    path_many m = rw (line_at b joints form n k h t, lt-leb n 512 m)

    pub path-fit : n ≤ 512 → path_file_of ring b ≡ shown (fit_path ring (ring_fit ring (file_at b Eight n 0)))
    path-fit m = rw (line_at b joints form n k h t, le-leb n 512 m)

  -- ---- what a fit shows

  module _ (E : Ending) {C : List Float} where
    pub fit-done : {k : ℕ} → Left E (ok k) C → shown (fit_path ring E) ≡ shown (line_of ring C k)
    unfolding fit_path
    fit-done l = rw (← l.answer, ← l.curves) refl

    pub fit_refused : {q : ℕ} → Left E (refused q) C → shown (fit_path ring E) ≡ refusal_line q
    unfolding fit_path
    fit_refused l = rw (← l.answer) refl
