-- The joined fit of a house file, as a house file. Definitions only.
use Rattle.std.specs.Prelude.{ℕ, List}
use Rattle.float.specs.Answer.{Answer, ok, ◌>>=◌}
use Rattle.form.specs.declared.Form.TheVariants.{Nine}
use Rattle.fit.specs.Fit.{Ending}
use Rattle.lines.specs.Handed.{shown}
use Rattle.house.specs.File.{File, bytes_of}
use Rattle.writer.specs.Writer.{file_for}
use Rattle.desk.specs.Desk.{patterns, zeros, no_marks, file_in}
use Rattle.file_fit.specs.FileFit.{bits_fit}

-- the joined fit of a tolerance and marks, into zeros with room for 4,096 marks
unfoldable pub roomy_fit : ℕ → List ℕ → Ending
roomy_fit t M = bits_fit t M (zeros 36855) (no_marks 4095) (no_marks 4095) (zeros 4096)

-- the file of a tolerance, marks and a fit that ends as E, with a worst mark for each curve, or the fit's refusal
unfoldable pub file_with : ℕ → List ℕ → Ending → Answer File
file_with t M E = do
  k ← E.answer
  ok (file_for Nine t M k E.firsts E.worsts (patterns E.curves) (patterns E.params))

-- 9, 2, the fit's 1, 5, 6 or 7, or the file of its fit. Of the file's numbers only the tolerance and the marks count.
unfoldable pub saved_file : List ℕ → Answer File
saved_file b = do
  F ← file_in b
  file_with F.tolerance F.marks (roomy_fit F.tolerance F.marks)

-- a file's bytes
unfoldable pub bytes_in : Answer File → Answer (List ℕ)
bytes_in a = do
  F ← a
  ok (bytes_of F)

-- the whole text: a file's bytes, or the one line of a refusal
abbrev pub saved_of : List ℕ → List ℕ
saved_of b = shown (bytes_in (saved_file b))
