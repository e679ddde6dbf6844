-- A house file with all that it may hold, numbers and their bit patterns, and slices of zeros. Definitions only.
use Rattle.std.specs.Prelude.{ℕ, ◌≡◌, List, map, cond, leb, eqb, length, replicate, Float}
use Rattle.std.specs.Float.{binary64}
use Rattle.std.specs.Float.Ieee.{of_bits, to_bits}
use Rattle.float.specs.Number.{f0}
use Rattle.float.specs.Answer.{Answer, ok, unless, ◌>>=◌}
use Rattle.limits.specs.Limits.{most_read}
use Rattle.house.specs.Limits.{too_many, no_room, badly_formed}
use Rattle.house.specs.File.{File, marks_in}
use Rattle.packed.specs.Unpacked.{held_of}

-- ---- numbers

-- numbers from their bits
abbrev pub floats : List ℕ → List Float
floats xs = map (of_bits binary64) xs

-- the bits of numbers
abbrev pub patterns : List Float → List ℕ
patterns xs = map (to_bits binary64) xs

-- so many zeros
unfoldable pub zeros : ℕ → List Float
zeros n = replicate n f0

-- so many zeros, for first marks and for worst marks
unfoldable pub no_marks : ℕ → List ℕ
no_marks n = replicate n 0

-- ---- the file

-- what the calls over whole files have room for: 4,096 marks
abbrev pub room_marks : ℕ
room_marks = 4096

-- slices with room for that
pub record Roomy (M P W C Q : List ℕ) : Type 0 where
  pub marks : length M ≡ 8192
  pub firsts : length P ≡ 4095
  pub worsts : length W ≡ 4095
  pub curves : length C ≡ 36855
  pub params : length Q ≡ 4096

-- 9 or 2, or the file, in either form
unfoldable pub file_in : List ℕ → Answer File
file_in b = unless badly_formed (leb (length b) most_read) do
  F ← held_of b
  unless too_many (leb (marks_in F) room_marks) (ok F)

-- for an inner contract: a reader's refusal for want of room is one of too many marks
abbrev pub crowded_as : ℕ → ℕ
crowded_as q = cond (eqb q no_room) too_many q
