-- `squares::sums::sums_of` meets its contract: s is the sums over the first i marks.
use mathlib.Core.Path.{◌≡◌, refl}
use mathlib.Core.List.{List}
use Prim.Native.Nat.{ℕ, ◌+◌}
use native.Mathlib.Omega.{arith}
use lib.ListN.{length}
use lib.Ieee.{Float}
use Rattle.float.specs.Folds.{upto}
use Rattle.float.proofs.Folds.{upto_next}
use Rattle.plane.specs.declared.Point.{Point}
use Rattle.squares.specs.Sums.{sum_at, zeros, sums_of}
use Rattle.squares.specs.declared.sums.Sums.{Sums}
use Rattle.squares.proofs.sums.sums_of.Goals as goal

module _ (ms ts : List Float) (st et : Point) (s : Sums) (i : ℕ) (d : s ≡ (upto i zeros (sum_at ms ts st et)).val) where
  more : (v : Sums) → v ≡ (sum_at ms ts st et i s).val → v ≡ (upto (i + 1) zeros (sum_at ms ts st et)).val
  more v h = cc (upto_next zeros (sum_at ms ts st et) i)

  end : i ≡ length ts → s ≡ (sums_of ms ts st et).val
  unfolding sums_of
  end n = rw n at d

pub loop-i-init : goal.loop-i-init
unfolding upto
loop-i-init c = refl

pub loop-i-preserved : goal.loop-i-preserved
loop-i-preserved c = more _ _ _ _ _ _ c.loop-i.invariant _ c.sum_at-s.ensures

pub returns : goal.returns
returns c = end _ _ _ _ _ _ c.loop-i.invariant (omega arith)
