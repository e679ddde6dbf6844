-- What the reader answers to a file in either form: 9, 2, 4, or what it holds. Definitions only.
use Rattle.std.specs.Prelude.{ℕ, ◌&&◌, List, leb, length}
use Rattle.float.specs.Answer.{Answer, ok, refused, unless, ◌>>=◌}
use Rattle.reader.specs.declared.Found.{Found}
use Rattle.limits.specs.Limits.{most_marks}
use Rattle.house.specs.Limits.{too_many, no_room}
use Rattle.house.specs.File.{File, marks_in, curves_in}
use Rattle.packed.specs.Unpacked.{held_of}
use Rattle.float.specs.Slices.{written}
use Rattle.house.specs.Slices.{room}

-- the file, if it is within the limits: m, p, w, c and q are the lengths of the slices for marks, first marks, worst marks, curves and parameters
abbrev pub within : File → ℕ → ℕ → ℕ → ℕ → ℕ → Answer File
within F m p w c q =
    unless too_many (leb (marks_in F) most_marks)
    (unless no_room (leb (length F.marks) m && room F.form (marks_in F) (curves_in F) p w c q)
    (ok F))

unfoldable pub judged : List ℕ → ℕ → ℕ → ℕ → ℕ → ℕ → Answer File
judged b m p w c q = do
  F ← held_of b
  within F m p w c q

-- what the answer holds of a file
abbrev pub found_in : File → Found
found_in F = record { form = F.form; tolerance = F.tolerance; marks = marks_in F; curves = curves_in F }

-- the answer, and the lent slices as they are left
pub record Outcome : Type 0 where
  pub answer : Answer Found
  pub marks : List ℕ
  pub firsts : List ℕ
  pub worsts : List ℕ
  pub curves : List ℕ
  pub params : List ℕ

abbrev pub outcome : Answer Found → List ℕ → List ℕ → List ℕ → List ℕ → List ℕ → Outcome
outcome a M P W C Q = record { answer = a; marks = M; firsts = P; worsts = W; curves = C; params = Q }

-- a file fills the first places of the slices, and a refusal leaves them
abbrev pub settled : Answer File → List ℕ → List ℕ → List ℕ → List ℕ → List ℕ → Outcome
settled (ok F) M P W C Q = outcome (ok (found_in F)) (written F.marks M) (written F.firsts P) (written F.worsts W) (written F.curves C) (written F.params Q)
settled (refused q) M P W C Q = outcome (refused q) M P W C Q

-- from the bytes, and the slices as they were lent
unfoldable pub read_of : List ℕ → List ℕ → List ℕ → List ℕ → List ℕ → List ℕ → Outcome
read_of b M P W C Q = settled (judged b (length M) (length P) (length W) (length C) (length Q)) M P W C Q
