-- The rounds of one part of three marks or more, as in fit_curve_cubic. Definitions only.
use Rattle.std.specs.Prelude.{◌||◌, cond, List, ℕ, zero, suc, Float}
use Rattle.std.specs.Float.{binary64}
use Rattle.std.specs.Float.Ieee.{of_bits, lt, le}
use Rattle.float.specs.Calc.{Calc, give, ◌>>=◌, ◌/!◌}
use Rattle.plane.specs.declared.Point.{Point}
use Rattle.plane.specs.declared.Curve.{Curve}
use Rattle.stages.specs.Chords.{chords_of}
use Rattle.stages.specs.Newton.{reparam}
use Rattle.stages.specs.Worst.{max_error}
use Rattle.stages.specs.declared.worst.Worst.{Worst}
use Rattle.squares.specs.Squares.{generate_of}

-- where a round stands: the curve, each mark's parameter, the largest distance and its mark
pub record Trial : Type 0 where
  pub curve : Curve
  pub params : List Float
  pub far : Worst

-- a round: a Newton step for every mark, least squares, the worst distance
unfoldable pub attempt : List Float → Point → Point → Curve → List Float → Calc Trial
attempt ms st et c ts = do
  us ← reparam ms c ts
  d ← generate_of ms us st et
  w ← max_error ms d us
  give (record { curve = d; params = us; far = w })

-- 0.95
abbrev pub enough : Float
enough = of_bits binary64 0x3fee_6666_6666_6666

-- at most so many more rounds, left when new error / old error > 0.95 or the error is within the tolerance; the last round counts
unfoldable pub improve : ℕ → List Float → Point → Point → Float → Trial → Calc Trial
improve zero ms st et tol a = give a
improve (suc n) ms st et tol a = do
  b ← attempt ms st et a.curve a.params
  improvement ← b.far.err /! a.far.err
  cond (lt enough improvement || le b.far.err tol) (give b) (improve n ms st et tol b)

-- chord-length parameters, least squares, a round; while over the tolerance, at most 7 more
unfoldable pub tried : ℕ → List Float → Point → Point → Float → Calc Trial
tried n ms st et tol = do
  ts ← chords_of ms n
  c ← generate_of ms ts st et
  a ← attempt ms st et c ts
  cond (lt tol a.far.err) (improve 7 ms st et tol a) (give a)
