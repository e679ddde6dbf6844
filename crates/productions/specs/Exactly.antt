-- What is read in a text is what the productions have there. Definitions only.
use Rattle.std.specs.Prelude.{ℕ, ◌≡◌, List}
use Rattle.float.specs.Answer.{ok, refused}
use Rattle.path.specs.Grammar.{Path, path_of}
use Rattle.productions.specs.Productions.{IsPath}

pub record Exactly : Type 0 where
  -- the path that is read in a text is one that the productions have there
  pub sound : (text : List ℕ) (p : Path) → path_of text ≡ ok p → IsPath text p
  -- and a path that they have there is the one that is read
  pub complete : (text : List ℕ) (p : Path) → IsPath text p → path_of text ≡ ok p
  -- a text where they have none is refused by 11
  pub none : (text : List ℕ) → ((p : Path) → IsPath text p → ⊥) → path_of text ≡ refused 11
  -- and nothing is refused by another number
  pub refusal : (text : List ℕ) (q : ℕ) → path_of text ≡ refused q → q ≡ 11
