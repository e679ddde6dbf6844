-- A house file's fit as path data, in a line. Definitions only.
use Rattle.std.specs.Prelude.{ℕ, Bool, true, false, List, ◌++◌, leb, length, Float}
use Rattle.std.specs.Float.{binary64}
use Rattle.std.specs.Float.Ieee.{of_bits}
use Rattle.float.specs.Answer.{Answer, ok, unless, ◌>>=◌}
use Rattle.form.specs.declared.Form.TheVariants.{Nine}
use Rattle.tangents.specs.declared.Cutting.{Cutting}
use Rattle.tangents.specs.declared.Cutting.TheVariants.{Joined, Ring}
use Rattle.fit.specs.Fit.{Ending, fit_of}
use Rattle.lines.specs.Lines.{newline}
use Rattle.lines.specs.Handed.{shown}
use Rattle.house.specs.Limits.{too_many, badly_formed}
use Rattle.house.specs.File.{File, marks_in}
use Rattle.packed.specs.Unpacked.{held_of}
use Rattle.desk.specs.Desk.{zeros, no_marks, floats}
use Rattle.export.specs.Export.{export_text}

-- the most bytes and the most marks that are taken, as for the listing
abbrev pub most_bytes : ℕ
most_bytes = 65536

abbrev pub most_taken : ℕ
most_taken = 512

-- the fit that is meant
abbrev pub cutting_for : Bool → Cutting
cutting_for true = Ring
cutting_for false = Joined

-- a file's fit, into zeros with room for 512 marks of a ring: 512 curves and 513 parameters
unfoldable pub ring_fit : Bool → File → Ending
ring_fit ring F = fit_of (cutting_for ring) (floats F.marks) (of_bits binary64 F.tolerance) (zeros 4608) (no_marks 512) (no_marks 512) (zeros 513)

-- export's refusal, or the path data of k curves and a newline
unfoldable pub line_of : Bool → List Float → ℕ → Answer (List ℕ)
line_of ring C k = do
  t ← export_text Nine C k ring
  ok (t ++ newline)

-- of a fit: its own refusal first
unfoldable pub fit_path : Bool → Ending → Answer (List ℕ)
fit_path ring E = do
  k ← E.answer
  line_of ring E.curves k

-- 9, 2, the fit's refusals, export's, or the line, of a file in either form. Of its numbers only the tolerance and the marks count.
unfoldable pub path_line : Bool → List ℕ → Answer (List ℕ)
path_line ring b = unless badly_formed (leb (length b) most_bytes) do
  F ← held_of b
  unless too_many (leb (marks_in F) most_taken) (fit_path ring (ring_fit ring F))

-- the whole text
abbrev pub path_file_of : Bool → List ℕ → List ℕ
path_file_of ring b = shown (path_line ring b)
