-- The listing: from the bytes of a house file to the text of its outline. Definitions only.
use Rattle.std.specs.Prelude.{ℕ, List, leb, length, take}
use Rattle.float.specs.Answer.{Answer, ok, unless, ◌>>=◌}
use Rattle.fit.specs.Fit.{Ending}
use Rattle.lines.specs.Lines.{outline_lines}
use Rattle.lines.specs.Handed.{shown}
use Rattle.desk.specs.Desk.{zeros, no_marks}
use Rattle.house.specs.Limits.{too_many, badly_formed}
use Rattle.house.specs.File.{File, marks_in}
use Rattle.packed.specs.Unpacked.{held_of}
use Rattle.file_fit.specs.FileFit.{file_fit}

abbrev pub too_few : ℕ
too_few = 1

-- the most bytes and the most marks that are listed
abbrev pub most_bytes : ℕ
most_bytes = 65536

abbrev pub most_listed : ℕ
most_listed = 512

-- the lines of a fit of n marks that ends as E, or the fit's refusal
unfoldable pub fit_lines : ℕ → Ending → Answer (List ℕ)
fit_lines n E = do
  k ← E.answer
  ok (outline_lines n (take k E.firsts) E.curves)

-- a file's fit, into zeros with room for 512 marks: 9 * 511 numbers of curves, 511 first marks and worst marks, 512 parameters
unfoldable pub roomy_fit : File → Ending
roomy_fit F = file_fit F (zeros 4599) (no_marks 511) (no_marks 511) (zeros 512)

-- 9, 1, 2, the fit's 5, 6 or 7, or the lines, of a file in either form. Of its numbers only the tolerance and the marks count.
unfoldable pub lines_of : List ℕ → Answer (List ℕ)
lines_of b = unless badly_formed (leb (length b) most_bytes) do
  F ← held_of b
  unless too_few (leb 2 (marks_in F)) (unless too_many (leb (marks_in F) most_listed) (fit_lines (marks_in F) (roomy_fit F)))

-- the whole text
abbrev pub listing_of : List ℕ → List ℕ
listing_of b = shown (lines_of b)
