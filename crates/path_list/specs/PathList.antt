-- The listing of path data: from its bytes to the lines of its curves. Definitions only.
use Rattle.std.specs.Prelude.{ℕ, zero, suc, ◌*◌, Bool, cond, List, [], ◌∷◌, ◌++◌, leb, length, take, drop, Float}
use Rattle.float.specs.Answer.{Answer, ok, unless, ◌>>=◌}
use Rattle.form.specs.Form.{curve_numbers}
use Rattle.text.specs.Text.{decimal}
use Rattle.lines.specs.Lines.{piece_line}
use Rattle.lines.specs.Handed.{shown}
use Rattle.path.specs.Curves.{eights}
use Rattle.path.specs.Range.{no_room}
use Rattle.import.specs.Import.{Read, read_of, fitting}

-- the most bytes that are taken
abbrev pub most_bytes : ℕ
most_bytes = 262144

-- room for 512 curves
abbrev pub room_for_curves : ℕ
room_for_curves = 4096

-- `PATH `
abbrev pub path_word : List ℕ
path_word = 80 ∷ 65 ∷ 84 ∷ 72 ∷ 32 ∷ []

-- ` CLOSED` or ` OPEN`, and the end of the line
unfoldable pub closed_word : Bool → List ℕ
closed_word z = cond z (32 ∷ 67 ∷ 76 ∷ 79 ∷ 83 ∷ 69 ∷ 68 ∷ 10 ∷ []) (32 ∷ 79 ∷ 80 ∷ 69 ∷ 78 ∷ 10 ∷ [])

-- how many curves there are, and whether Z closed them
unfoldable pub head_line : ℕ → Bool → List ℕ
head_line k z = (path_word ++ decimal k) ++ closed_word z

-- a line for each of the first k curves, with its eight numbers
unfoldable pub curve_lines : ℕ → List Float → List ℕ
curve_lines zero C = []
curve_lines (suc i) C = curve_lines i C ++ piece_line i (take curve_numbers (drop (curve_numbers * i) C))

-- the lines of k curves
unfoldable pub path_lines : ℕ → Bool → List Float → List ℕ
path_lines k z C = head_line k z ++ curve_lines k C

abbrev pub read_lines : Read → List ℕ
read_lines r = path_lines (length r.curves) r.closed (eights r.curves)

-- 11, 10 or 4 as import has them, or what the text draws
unfoldable pub drawn_of : List ℕ → Answer Read
drawn_of text = do
  r ← read_of text
  fitting room_for_curves r

-- its lines
unfoldable pub drawn_lines : List ℕ → Answer (List ℕ)
drawn_lines text = do
  r ← drawn_of text
  ok (read_lines r)

-- 4 for a text that is too long, which is not read
unfoldable pub lines_of : List ℕ → Answer (List ℕ)
lines_of text = unless no_room (leb (length text) most_bytes) (drawn_lines text)

-- the whole text
abbrev pub path_list_of : List ℕ → List ℕ
path_list_of text = shown (lines_of text)
