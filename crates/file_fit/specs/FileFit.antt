-- The joined fit of a house file. Definitions only.
use Rattle.std.specs.Prelude.{ℕ, ◌≡◌, List, Float}
use Rattle.std.specs.Float.{binary64}
use Rattle.std.specs.Float.Ieee.{of_bits}
use Rattle.float.specs.Answer.{Answer}
use Rattle.tangents.specs.declared.Cutting.TheVariants.{Joined}
use Rattle.fit.specs.Fit.{Ending, fit_of}
use Rattle.house.specs.File.{File}
use Rattle.desk.specs.Desk.{floats}

-- a tolerance and marks, by their bits, through the joined fit, into slices that are lent for curves, first marks, worst marks and parameters
abbrev pub bits_fit : ℕ → List ℕ → List Float → List ℕ → List ℕ → List Float → Ending
bits_fit t M C P W Q = fit_of Joined (floats M) (of_bits binary64 t) C P W Q

-- a file's
unfoldable pub file_fit : File → List Float → List ℕ → List ℕ → List Float → Ending
file_fit F C P W Q = bits_fit F.tolerance F.marks C P W Q

-- what a call left of a fit that ends as E, whose worst marks and parameters it kept to itself
pub record Left (E : Ending) (a : Answer ℕ) (C : List Float) (P : List ℕ) : Type 0 where
  pub answer : a ≡ E.answer
  pub curves : C ≡ E.curves
  pub firsts : P ≡ E.firsts
