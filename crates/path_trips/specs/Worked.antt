-- Worked cases of export's numbers and of import's grammar, as one statement. Definitions only.
use Rattle.std.specs.Prelude.{ℕ, ◌≡◌, true, false, List, [], ◌∷◌}
use Rattle.std.specs.Float.{binary64}
use Rattle.std.specs.Float.Ieee.{of_bits}
use Rattle.float.specs.Answer.{ok, refused}
use Rattle.path.specs.Decimals.{signed, written_of, decimal_text}
use Rattle.path.specs.Numbers.{taken, number}
use Rattle.path.specs.Grammar.{Place, line, curve, path_of}

-- a number's text, by its bits
abbrev pub text_of : ℕ → List ℕ
text_of b = decimal_text (written_of (of_bits binary64 b))

-- a place, in thousandths
abbrev pub place : ℕ → ℕ → Place
place x y = record { x = signed false x; y = signed false y }

pub record Worked : Type 0 where
  -- 0.0625 is `0.063`, and -0.0625 is `-0.063`: halves go away from zero
  pub half : text_of 0x3fb0_0000_0000_0000 ≡ 48 ∷ 46 ∷ 48 ∷ 54 ∷ 51 ∷ []
  pub minus_half : text_of 0xbfb0_0000_0000_0000 ≡ 45 ∷ 48 ∷ 46 ∷ 48 ∷ 54 ∷ 51 ∷ []
  -- 12.5 is `12.5`, 100 is `100`
  pub places : text_of 0x4029_0000_0000_0000 ≡ 49 ∷ 50 ∷ 46 ∷ 53 ∷ []
  pub hundred : text_of 0x4059_0000_0000_0000 ≡ 49 ∷ 48 ∷ 48 ∷ []
  -- minus zero, and what is rounded to it (-2^-12), is `0`
  pub minus_zero : text_of 0x8000_0000_0000_0000 ≡ 48 ∷ []
  pub minus_little : text_of 0xbf30_0000_0000_0000 ≡ 48 ∷ []
  -- `.5` and `-5.` are numbers; `1.5.25` is one and another; `.` is none, and nor is one with four places, `0.0001`
  pub no_whole : number (46 ∷ 53 ∷ []) ≡ ok (taken (signed false 500) [])
  pub no_places : number (45 ∷ 53 ∷ 46 ∷ []) ≡ ok (taken (signed true 5000) [])
  pub two_points : number (49 ∷ 46 ∷ 53 ∷ 46 ∷ 50 ∷ 53 ∷ []) ≡ ok (taken (signed false 1500) (46 ∷ 50 ∷ 53 ∷ []))
  pub no_digit : number (46 ∷ []) ≡ refused 11
  pub four_places : number (48 ∷ 46 ∷ 48 ∷ 48 ∷ 48 ∷ 49 ∷ []) ≡ refused 11
  -- `M1 2 3,4C5 6 7 8 9 0Z` is a line and a curve, and `M1 2z`, with a small z, is no path
  pub path : path_of (77 ∷ 49 ∷ 32 ∷ 50 ∷ 32 ∷ 51 ∷ 44 ∷ 52 ∷ 67 ∷ 53 ∷ 32 ∷ 54 ∷ 32 ∷ 55 ∷ 32 ∷ 56 ∷ 32 ∷ 57 ∷ 32 ∷ 48 ∷ 90 ∷ [])
      ≡ ok (record { start = place 1000 2000; segments = line (place 3000 4000) ∷ curve (place 5000 6000) (place 7000 8000) (place 9000 0) ∷ []; closed = true })
  pub small : path_of (77 ∷ 49 ∷ 32 ∷ 50 ∷ 122 ∷ []) ≡ refused 11
