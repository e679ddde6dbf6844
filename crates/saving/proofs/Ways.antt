-- What each way through a file's fit hands over. Assumes nothing.
use mathlib.Core.Path.{◌≡◌, ◌∙◌}
use mathlib.Core.List.{List}
use Prim.Native.Nat.{ℕ, ◌*◌, ◌%◌, ◌≤◌}
use native.Mathlib.Omega.{arith}
use lib.ListN.{length, take}
use lib.Ieee.{Float, binary64, of_bits}
use Rattle.float.specs.Slices.{written}
use Rattle.form.specs.declared.Form.{Form}
use Rattle.form.specs.declared.Form.TheVariants.{Nine}
use Rattle.tangents.specs.declared.Cutting.TheVariants.{Joined}
use Rattle.float.specs.Answer.{ok, refused}
use Rattle.fit.specs.Fit.{Ending, ending, fit_of}
use Rattle.lines.specs.Lines.{refusal_line}
use Rattle.lines.specs.Handed.{shown}
use Rattle.house.specs.File.{bytes_of}
use Rattle.reader.specs.Reader.{outcome, settled}
use Rattle.writer.specs.Writer.{file_for}
use Rattle.desk.specs.Desk.{floats, patterns, zeros, no_marks, file_in}
use Rattle.desk.proofs.Numbers.{floats-front}
use Rattle.desk.proofs.Opened.{Opened, unopened}
use Rattle.saving.specs.Saving.{roomy_fit, file_with, saved_file, bytes_in, saved_of}
use Rattle.saving.specs.Ready.{Ready}
use Rattle.saving.proofs.Takes.{fit_ready}

-- ---- the fit

module _ (t : ℕ) (M : List ℕ) where
  -- the fit that the call makes is the definition's
  pub fit_is : (ms C Q : List Float) (P W : List ℕ) {ms' : List Float} {tol : Float} {E : Ending} → ms' ≡ written (floats M) ms → tol ≡ of_bits binary64 t → C ≡ zeros 36855 → P ≡ no_marks 4095 → W ≡ no_marks 4095 → Q ≡ zeros 4096
      → E ≡ fit_of Joined (take (length M) ms') tol C P W Q → E ≡ roomy_fit t M
  unfolding roomy_fit
  fit_is ms C Q P W em et ec ep ew eq h = h ∙ rw (floats-front M ms em, et, ec, ep, ew, eq)

  module _ {C : List Float} {P W : List ℕ} {Q : List Float} where
    pub refused-text : (q : ℕ) → ending (refused q) C P W Q ≡ roomy_fit t M → shown (bytes_in (file_with t M (roomy_fit t M))) ≡ refusal_line q
    unfolding file_with bytes_in
    refused-text q h = rw (← h)

    module _ (k : ℕ) (h : ending (ok k) C P W Q ≡ roomy_fit t M) where
      pub done-text : shown (bytes_in (file_with t M (roomy_fit t M))) ≡ bytes_of (file_for Nine t M k P W (patterns C) (patterns Q))
      unfolding file_with bytes_in
      done-text = rw (← h)

      pub done_ready : length M % 2 ≡ 0 → length M ≤ 8192 → length P ≡ 4095 → length W ≡ 4095 → length C ≡ 36855 → length Q ≡ 4096 → Ready M k P W C Q
      unfolding roomy_fit
      done_ready even few lp lw lc lq = fit_ready M (of_bits binary64 t) k _ C _ P _ W _ Q even few lp lw lc lq h

-- ---- the file

-- a file that is not read
pub unread_text : (b M P W C Q : List ℕ) {M' P' W' C' Q' : List ℕ} (q : ℕ) → outcome (refused q) M' P' W' C' Q' ≡ settled (file_in b) M P W C Q → saved_of b ≡ refusal_line q
unfolding saved_file bytes_in
unread_text b M P W C Q q e = rw (unopened b M P W C Q q e)

-- one that is
pub read-text : {b : List ℕ} {form : Form} {t n k : ℕ} {M P W C Q : List ℕ} → Opened b form t n k M P W C Q → saved_of b ≡ shown (bytes_in (file_with t (take (2 * n) M) (roomy_fit t (take (2 * n) M))))
unfolding saved_file
read-text {b} {form} {t} {n} {k} {M} o = rw (o.read, o.tolerance, o.marks)

pub marks-fit : {b : List ℕ} {form : Form} {t n k : ℕ} {M P W C Q : List ℕ} → Opened b form t n k M P W C Q → (length (take (2 * n) M) % 2 ≡ 0) × (length (take (2 * n) M) ≤ 8192)
marks-fit o = rw (o.marks, o.formed.sized.marks) (omega arith, omega (arith, o.few))
