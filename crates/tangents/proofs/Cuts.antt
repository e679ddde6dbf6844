-- Tangents worked out in turn, by what the code's calls answer. Assumes nothing.
use Prim.Native.Nat.{ℕ}
use mathlib.Core.Path.{◌≡◌, refl, sym, ◌∙◌}
use Rattle.float.specs.Calc.{Calc, give, ◌>>=◌}
use Rattle.float.specs.Answer.{ok, refused, outcome}
use Rattle.float.proofs.Answers.{outcome_ok}
use Rattle.plane.specs.declared.Point.{Point}
use Rattle.joints.proofs.Joints.{lost, goes_on}
use Rattle.tangents.specs.declared.Ways.{Ways}

-- two tangents in turn, the second by the first or not, and what is made of both
module _ (m : Calc Point) (f : Point → Calc Point) (g : Point → Point → Ways) where
  abbrev second : Point → Calc Ways
  second t = ◌>>=◌ (f t) (λ u. give (g t u))

  pub no_first : (q : ℕ) → refused q ≡ outcome m → refused q ≡ outcome (◌>>=◌ m second)
  no_first = lost m second

  module _ (t : Point) (h : ok t ≡ outcome m) where
    pub no_second : (q : ℕ) → refused q ≡ outcome (f t) → refused q ≡ outcome (◌>>=◌ m second)
    no_second q k = lost (f t) (λ u. give (g t u)) q k ∙ goes_on m second t h

    pub both : (u : Point) → ok u ≡ outcome (f t) → ok (g t u) ≡ outcome (◌>>=◌ m second)
    both u k = sym (outcome_ok (give (g t u)) refl) ∙ goes_on (f t) (λ u. give (g t u)) u k ∙ goes_on m second t h
