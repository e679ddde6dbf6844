-- What each way through the judge shows. Assumes nothing.
use mathlib.Core.Path.{◌≡◌, ◌∙◌}
use mathlib.Core.List.{List}
use Prim.Native.Nat.{ℕ, ◌*◌, ◌<◌, ◌≤◌}
use native.Mathlib.Omega.{arith}
use borrow.Author.Tests.{eq-eqb, ne_eqb}
use lib.ListN.{length, take}
use lib.Ieee.{Float, binary64, of_bits}
use Rattle.float.specs.Answer.{Answer, refused}
use Rattle.float.specs.Slices.{written}
use Rattle.form.specs.Form.{width, worsts_for}
use Rattle.form.specs.declared.Form.{Form}
use Rattle.ring.specs.declared.Outline.TheVariants.{Open}
use Rattle.checker.specs.Check.{Verdict, check_of}
use Rattle.lines.specs.Lines.{one_line, refusal_line}
use Rattle.lines.specs.Handed.{shown}
use Rattle.house.specs.File.{File, marks_in}
use Rattle.reader.specs.Reader.{outcome, settled}
use Rattle.desk.specs.Desk.{floats, file_in}
use Rattle.desk.proofs.Numbers.{floats-front}
use Rattle.desk.proofs.Opened.{Opened, unopened, params_at, bounds}
use Rattle.verdict.specs.Verdict.{no_curves_word, list_in, verdict_in, file_line, line_of, judgement_of}

-- ---- the checker on copies of the numbers

pub checked-as : (form : Form) (ms cs ps fs ws : List ℕ) (t k : ℕ) (M C Q : List Float) {M' C' Q' : List Float} {u : Float} {a : Answer Verdict}
    → M' ≡ written (floats ms) M → C' ≡ written (floats cs) C → Q' ≡ written (floats ps) Q → u ≡ of_bits binary64 t
    → a ≡ check_of Open form (take (length ms) M') u k (take (length cs) C') fs ws (take (length ps) Q') → a ≡ check_of Open form (floats ms) (of_bits binary64 t) k (floats cs) fs ws (floats ps)
checked-as form ms cs ps fs ws t k M C Q eM e_c eQ et e = rw (← floats-front ms M eM, ← floats-front cs C e_c, ← floats-front ps Q eQ, ← et) e

-- ---- a file that is refused

pub refused-line : (b M P W C Q : List ℕ) {M' P' W' C' Q' : List ℕ} (q : ℕ) → outcome (refused q) M' P' W' C' Q' ≡ settled (file_in b) M P W C Q → judgement_of b ≡ refusal_line q
unfolding line_of
refused-line b M P W C Q q e = rw (unopened b M P W C Q q e)

-- ---- one that is opened

module _ (F : File) {n : ℕ} where
  no_curves : length F.firsts ≡ 0 → marks_in F ≡ n → shown (file_line F) ≡ one_line no_curves_word n
  unfolding file_line
  no_curves z m = rw (eq-eqb (length F.firsts) 0 z, m)

  with_curves : {form : Form} {t k : ℕ} {M P W C Q : List ℕ} {a : Answer Verdict} → 0 < k → length F.firsts ≡ k → marks_in F ≡ n → form ≡ F.form → t ≡ F.tolerance → M ≡ F.marks → P ≡ F.firsts → W ≡ F.worsts → C ≡ F.curves
      → Q ≡ F.params → a ≡ check_of Open form (floats M) (of_bits binary64 t) k (floats C) P W (floats Q) → shown (file_line F) ≡ shown (verdict_in n k a)
  unfolding file_line list_in
  with_curves {form} {t} {k} h eK e_n eF eT eM eP e_w e_c eQ e = rw (eK, ne_eqb k 0 (λ z. omega arith), e_n, e, eF, eT, eM, eP, e_w, e_c, eQ)

module _ {b : List ℕ} {form : Form} {t n k : ℕ} {M P W C Q : List ℕ} (o : Opened b form t n k M P W C Q) where
  line_at : line_of b ≡ file_line o.file
  unfolding line_of
  line_at = rw o.read

  -- the numbers of the curves, by the width that the code worked out
  pub curves_within : 0 < k → {w : ℕ} → w ≡ width form → w * k ≤ length C
  curves_within h e = rw e (bounds o h).curves

  pub plain-line : k ≡ 0 → judgement_of b ≡ one_line no_curves_word n
  plain-line z = rw line_at (no_curves o.file (o.formed.sized.firsts ∙ z) o.many)

  pub verdict-line : {a : Answer Verdict} → 0 < k → a ≡ check_of Open form (floats (take (2 * n) M)) (of_bits binary64 t) k (floats (take (width form * k) C)) (take k P) (take (worsts_for form k) W) (floats (take n Q))
      → judgement_of b ≡ shown (verdict_in n k a)
  verdict-line h e =
      rw line_at (with_curves o.file h o.formed.sized.firsts o.many o.shape o.tolerance o.marks o.firsts o.worsts o.curves (params_at o h) e)
