-- What a call that puts a text leaves, as one word. Definitions only.
use Rattle.std.specs.Prelude.{ℕ, ◌+◌, ◌≡◌, List, length}
use Rattle.std.proofs.lemmas.List.Edits.{sets}

-- the text xs was put into l at `at`: m is what l became, and e is where the text ends
pub record Put (l : List ℕ) (at : ℕ) (xs m : List ℕ) (e : ℕ) : Type 0 where
  pub end : e ≡ at + length xs
  pub out : m ≡ sets l at xs
