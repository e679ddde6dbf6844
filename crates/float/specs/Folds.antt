-- Loops over indices, as runs. Both recurse at the end, so that a loop's invariant is the same equation at its index. Definitions only.
use Rattle.std.specs.Prelude.{List, [], ◌∷◌, ◌++◌, ℕ, zero, suc}
use Rattle.float.specs.Calc.{Calc, give, ◌>>=◌}

-- from a, by f 0, f 1, .. f (n - 1) in turn
unfoldable pub upto : {A : Type 0} → ℕ → A → (ℕ → A → Calc A) → Calc A
upto zero a f = give a
upto (suc n) a f = do
  b ← upto n a f
  f n b

-- the values of f 0, f 1, .. f (n - 1)
unfoldable pub each : {A : Type 0} → ℕ → (ℕ → Calc A) → Calc (List A)
each zero f = give []
each (suc n) f = do
  xs ← each n f
  x ← f n
  give (xs ++ x ∷ [])
