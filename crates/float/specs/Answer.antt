-- Answers: a value, or a refusal by its number. Definitions only.
use Rattle.std.specs.Prelude.{Bool, true, false, ℕ}
use Rattle.float.specs.Calc.{Calc}

pub data Answer (A : Type 0) : Type 0 where
  ok : A → Answer A
  refused : ℕ → Answer A

-- refusal n, unless the test passes
abbrev pub unless : {A : Type 0} → ℕ → Bool → Answer A → Answer A
unless n true a = a
unless n false a = refused n

-- an answer, and then another that goes on with its value: the first refusal is the whole's
abbrev pub ◌>>=◌ : {A B : Type 0} → Answer A → (A → Answer B) → Answer B
◌>>=◌ (ok a) f = f a
◌>>=◌ (refused n) f = refused n

-- what a run comes to: 6 where some operation gave NaN or an infinity
unfoldable pub outcome : {A : Type 0} → Calc A → Answer A
outcome m = unless 6 m.fine (ok m.val)
