-- How a call hands a whole text to its caller. Definitions only.
use Rattle.std.specs.Prelude.{ℕ, cond, List, leb, length}
use Rattle.float.specs.Answer.{Answer, ok, refused}
use Rattle.float.specs.Slices.{written}
use Rattle.lines.specs.Lines.{refusal_line}

-- a text, or the one line of a refusal
abbrev pub shown : Answer (List ℕ) → List ℕ
shown (ok t) = t
shown (refused q) = refusal_line q

-- the answer, and the lent bytes as they are left
pub record Handed : Type 0 where
  pub answer : Answer ℕ
  pub out : List ℕ

abbrev pub handed : Answer ℕ → List ℕ → Handed
handed a O = record { answer = a; out = O }

-- a text fills the first places; where they are too few, 4, and they stay
unfoldable pub hand_over : List ℕ → List ℕ → Handed
hand_over t O = cond (leb (length t) (length O)) (handed (ok (length t)) (written t O)) (handed (refused 4) O)

-- a text is handed over whole, and a refusal leaves the bytes as they were
abbrev pub over_to : List ℕ → Answer (List ℕ) → Handed
over_to O (ok t) = hand_over t O
over_to O (refused q) = handed (refused q) O
