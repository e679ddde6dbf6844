-- max_error_for_curve of fit.rs. Definitions only.
use Rattle.std.specs.Prelude.{cond, List, ℕ, length, get_or, Float}
use Rattle.std.specs.Float.{nan}
use Rattle.std.specs.Float.Ieee.{lt}
use Rattle.float.specs.Number.{f0}
use Rattle.float.specs.Calc.{Calc, give, ◌>>=◌}
use Rattle.float.specs.Folds.{upto}
use Rattle.root.specs.Operation.{sqrt! }
use Rattle.plane.specs.Plane.{minus, dot_of}
use Rattle.plane.specs.declared.Point.{Point}
use Rattle.plane.specs.declared.Curve.{Curve}
use Rattle.cubic.specs.Basis.{point_at}
use Rattle.marks.specs.Marks.{mark_at}
use Rattle.stages.specs.declared.worst.Worst.{Worst}

-- the square of a mark's distance from the curve's point at t
unfoldable pub error_of : Point → Curve → Float → Calc Float
error_of m c t = do
  offset ← minus m (← point_at c t)
  dot_of offset offset

-- a larger one takes the place of the worst so far, an equal one does not
unfoldable pub larger : Worst → Float → ℕ → Worst
larger w e k = cond (lt w.err e) (record { err = e; at = k }) w

unfoldable pub worst_at : List Float → Curve → List Float → ℕ → Worst → Calc Worst
worst_at ms c ts k w = do give (larger w (← error_of (mark_at ms k) c (get_or ts k nan)) k)

abbrev pub no_worst : Worst
no_worst = record { err = f0; at = 0 }

-- the largest square, with the first mark that has it
unfoldable pub worst : List Float → Curve → List Float → Calc Worst
worst ms c ts = upto (length ts) no_worst (worst_at ms c ts)

-- the distance
unfoldable pub max_error : List Float → Curve → List Float → Calc Worst
max_error ms c ts = do
  w ← worst ms c ts
  err ← sqrt! w.err
  give (record { err = err; at = w.at })
