-- What the loop of `newton::search` keeps.
use mathlib.Core.Path.{◌≡◌}
use Prim.Native.Nat.{ℕ, ◌-◌}
use lib.Ieee.{Float}
use Rattle.float.specs.Calc.{Calc}
use Rattle.float.specs.Answer.{outcome}
use Rattle.newton.specs.Tests.{SearchBy}
use Rattle.newton.proofs.search.Given as goal

abbrev pub invariant-loop : goal.invariant-loop
invariant-loop g l = (s : ℕ → Float → Calc Float) → SearchBy (λ u r. goal.R-post g l.round u r) s → outcome (s l.rounds l.t) ≡ outcome (s (l.rounds - l.counter) l.u)
