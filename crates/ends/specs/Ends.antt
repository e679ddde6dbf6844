-- Words for a part's fit: its parameters, its curve's ends, and marks near enough. Definitions only.
use Rattle.std.specs.Prelude.{◌≡◌, true, List, ℕ, ◌-◌, ◌<◌, T, length, get_or, Float}
use Rattle.std.specs.Float.{nan, binary64}
use Rattle.std.specs.Float.Ieee.{fits, le}
use Rattle.float.specs.Number.{finite}
use Rattle.float.specs.Folds.{upto}
use Rattle.root.specs.Root.{sqrt}
use Rattle.plane.specs.declared.Point.{Point}
use Rattle.plane.specs.declared.Curve.{Curve}
use Rattle.marks.specs.Marks.{mark_at}
use Rattle.stages.specs.Worst.{worst_at, no_worst}
use Rattle.stages.specs.declared.worst.Worst.{Worst}
use Rattle.faults.specs.Tests.{distance_at}
use Rattle.numbers.specs.Words.{one, Zero, InUnit}

-- the parameters of a fit: all in 0..1, the first a zero of either sign, the last 1
pub record Params (ts : List Float) : Type 0 where
  pub some : 0 < length ts
  pub unit : (k : ℕ) → k < length ts → InUnit (get_or ts k nan)
  pub first : Zero (get_or ts 0 nan)
  pub last : get_or ts (length ts - 1) nan ≡ one

-- both coordinates are values of an f64
abbrev pub FitsP : Point → Type 0
FitsP p = T (fits binary64 p.x) × T (fits binary64 p.y)

-- the curve starts at the first of n marks and ends at the last, to the bit
pub record EndsAt (ms : List Float) (n : ℕ) (c : Curve) : Type 0 where
  pub first : mark_at ms 0 ≡ c.start
  pub last : mark_at ms (n - 1) ≡ c.end
  pub fits_first : FitsP (mark_at ms 0)
  pub fits_last : FitsP (mark_at ms (n - 1))

-- the largest squared distance of the first n marks from the curve, with the first mark that has it
abbrev pub worst_of : List Float → Curve → List Float → ℕ → Worst
worst_of ms c ts n = (upto n no_worst (worst_at ms c ts)).val

-- the same with the distance
abbrev pub rooted : Worst → Worst
rooted w = record { err = sqrt binary64 w.err; at = w.at }

-- a mark's distance from the curve's point at t is finite and within the tolerance
abbrev pub Near : Float → Point → Curve → Float → Type 0
Near tol m c t = (finite (distance_at m c t) ≡ true) × (le (distance_at m c t) tol ≡ true)
