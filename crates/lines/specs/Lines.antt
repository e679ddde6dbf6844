-- The lines of the listing and of the judge, in ASCII. Definitions only.
use Rattle.std.specs.Prelude.{ℕ, List, [], ◌∷◌, ◌++◌, length, take, drop, Float}
use Rattle.std.specs.Float.{binary64}
use Rattle.std.specs.Float.Ieee.{to_bits}
use Rattle.form.specs.Form.{curve_numbers, record_numbers}
use Rattle.text.specs.Text.{decimal, hex16}

-- `OUTLINE `, `PIECE ` and `REFUSED `
abbrev pub outline_word : List ℕ
outline_word = 79 ∷ 85 ∷ 84 ∷ 76 ∷ 73 ∷ 78 ∷ 69 ∷ 32 ∷ []

abbrev pub piece_word : List ℕ
piece_word = 80 ∷ 73 ∷ 69 ∷ 67 ∷ 69 ∷ 32 ∷ []

abbrev pub refused_word : List ℕ
refused_word = 82 ∷ 69 ∷ 70 ∷ 85 ∷ 83 ∷ 69 ∷ 68 ∷ 32 ∷ []

abbrev pub blank : List ℕ
blank = 32 ∷ []

abbrev pub newline : List ℕ
newline = 10 ∷ []

-- a word and one number; two words, each with a number behind it; a word and two numbers
unfoldable pub one_line : List ℕ → ℕ → List ℕ
one_line w a = (w ++ decimal a) ++ newline

unfoldable pub pair_line : List ℕ → ℕ → List ℕ → ℕ → List ℕ
pair_line w a v b = (((w ++ decimal a) ++ v) ++ decimal b) ++ newline

unfoldable pub two_line : List ℕ → ℕ → ℕ → List ℕ
two_line w a b = pair_line w a blank b

-- numbers by their bits, a blank before each
unfoldable pub numbers : List Float → List ℕ
numbers [] = []
numbers (x ∷ xs) = (blank ++ hex16 (to_bits binary64 x)) ++ numbers xs

-- a curve's line: its first mark and its eight numbers
unfoldable pub piece_line : ℕ → List Float → List ℕ
piece_line p C = ((piece_word ++ decimal p) ++ numbers C) ++ newline

-- a line for each first mark, with the eight numbers of the next record; its ninth is not listed
unfoldable pub piece_lines : List ℕ → List Float → List ℕ
piece_lines [] C = []
piece_lines (p ∷ P) C = piece_line p (take curve_numbers C) ++ piece_lines P (drop record_numbers C)

-- an outline: a line of how many marks and curves it has, and its curves
unfoldable pub outline_lines : ℕ → List ℕ → List Float → List ℕ
outline_lines n P C = two_line outline_word n (length P) ++ piece_lines P C

unfoldable pub refusal_line : ℕ → List ℕ
refusal_line q = one_line refused_word q
