-- What the inner calls leave. Definitions only.
use Rattle.std.specs.Prelude.{ℕ, ◌≡◌, List, Float}
use Rattle.float.specs.Answer.{Answer}
use Rattle.fit.specs.Fit.{Ending}

-- of a fit that ends as E the answer and the curves
pub record Left (E : Ending) (a : Answer ℕ) (C : List Float) : Type 0 where
  pub answer : a ≡ E.answer
  pub curves : C ≡ E.curves
