-- The farthest mark of a run of marks. Assumes nothing.
use Prim.Native.Nat.{ℕ, zero, suc, ◌+◌, ◌<◌}
use native.Mathlib.Omega.{arith}
use mathlib.Core.Path.{◌≡◌, refl, ap}
use mathlib.Core.Bool.{Bool, true, false, cond}
use mathlib.Core.List.{List}
use lib.Ieee.{Float, lt}
use Rattle.float.specs.Folds.{upto}
use Rattle.plane.specs.declared.Curve.{Curve}
use Rattle.stages.specs.Worst.{larger, worst_at, no_worst}
use Rattle.stages.specs.declared.worst.Worst.{Worst}
use Rattle.faults.specs.Tests.{square_at, farther, unmeasured}

-- the same squares, the same mark
pub farther_same : (w : Worst) (f g : ℕ → Float) (from m : ℕ) → ((i : ℕ) → i < m → f i ≡ g i) → farther w f from m ≡ farther w g from m
unfolding farther
farther_same w f g from zero h = refl
farther_same w f g from (suc m) h = rw (farther_same w f g from m (λ i l. h i (omega arith)), h m (omega arith))

-- ---- of a part whose first mark is mark `first`, the worst mark that a fit finds, by its number in the part

abbrev pub shifted : ℕ → Worst → Worst
shifted first w = record { err = w.err; at = first + w.at }

shift_larger : (first k : ℕ) (w : Worst) (e : Float) → larger (shifted first w) e (first + k) ≡ shifted first (larger w e k)
unfolding larger
shift_larger first k w e = go (lt w.err e)
  where
    go : (b : Bool) → cond b (record { err = e; at = first + k }) (shifted first w) ≡ shifted first (cond b (record { err = e; at = k }) w)
    go true = refl
    go false = refl

module _ (us : List Float) (c : Curve) (ts : List Float) (first : ℕ) where
  pub upto-farther : (m : ℕ) → farther (unmeasured first) (square_at us c ts) first m ≡ shifted first (upto m no_worst (worst_at us c ts)).val
  unfolding farther upto worst_at square_at
  upto-farther zero = let z : first ≡ first + 0 = omega arith in ap unmeasured z
  upto-farther (suc m) = rw (upto-farther m) (shift_larger first m _ _)
