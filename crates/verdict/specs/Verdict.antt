-- The judge: from the bytes of a house file to one line. Definitions only.
use Rattle.std.specs.Prelude.{ℕ, cond, List, [], ◌∷◌, eqb}
use Rattle.std.specs.Float.{binary64}
use Rattle.std.specs.Float.Ieee.{of_bits}
use Rattle.float.specs.Answer.{Answer, ok, ◌>>=◌}
use Rattle.ring.specs.declared.Outline.TheVariants.{Open}
use Rattle.checker.specs.declared.Place.{Place}
use Rattle.checker.specs.declared.Fault.{Fault}
use Rattle.checker.specs.declared.Fault.TheVariants.{A, B, C, D, E}
use Rattle.checker.specs.Check.{Verdict, passed, fault, check_of}
use Rattle.lines.specs.Lines.{one_line, two_line}
use Rattle.lines.specs.Handed.{shown}
use Rattle.house.specs.File.{File, marks_in, curves_in}
use Rattle.desk.specs.Desk.{floats, file_in}

-- `PASSED `, `NO CURVES `, and `FAULT ` with a letter behind it
abbrev pub passed_word : List ℕ
passed_word = 80 ∷ 65 ∷ 83 ∷ 83 ∷ 69 ∷ 68 ∷ 32 ∷ []

abbrev pub no_curves_word : List ℕ
no_curves_word = 78 ∷ 79 ∷ 32 ∷ 67 ∷ 85 ∷ 82 ∷ 86 ∷ 69 ∷ 83 ∷ 32 ∷ []

abbrev pub fault_word : ℕ → List ℕ
fault_word letter = 70 ∷ 65 ∷ 85 ∷ 76 ∷ 84 ∷ 32 ∷ letter ∷ 32 ∷ []

-- the numbers of the curve and of the mark
abbrev pub place_line : List ℕ → Place → List ℕ
place_line w p = two_line w p.curve p.mark

-- a fault's letter, curve and mark
abbrev pub fault_line : Fault → List ℕ
fault_line (A p) = place_line (fault_word 65) p
fault_line (B p) = place_line (fault_word 66) p
fault_line (C p) = place_line (fault_word 67) p
fault_line (D p) = place_line (fault_word 68) p
fault_line (E p) = place_line (fault_word 69) p

-- a verdict on n marks and k curves
abbrev pub verdict_line : ℕ → ℕ → Verdict → List ℕ
verdict_line n k passed = two_line passed_word n k
verdict_line n k (fault f) = fault_line f

-- what the list checker says of a file's curves, by the record that they are stored in
unfoldable pub list_in : File → Answer Verdict
list_in F = check_of Open F.form (floats F.marks) (of_bits binary64 F.tolerance) (curves_in F) (floats F.curves) F.firsts F.worsts (floats F.params)

-- the line of what it says of n marks and k curves, or its refusal
unfoldable pub verdict_in : ℕ → ℕ → Answer Verdict → Answer (List ℕ)
verdict_in n k a = do
  v ← a
  ok (verdict_line n k v)

-- a file without curves says so, and its numbers are not looked at
unfoldable pub file_line : File → Answer (List ℕ)
file_line F = cond (eqb (curves_in F) 0) (ok (one_line no_curves_word (marks_in F))) (verdict_in (marks_in F) (curves_in F) (list_in F))

unfoldable pub line_of : List ℕ → Answer (List ℕ)
line_of b = do
  F ← file_in b
  file_line F

-- the whole line
abbrev pub judgement_of : List ℕ → List ℕ
judgement_of b = shown (line_of b)
