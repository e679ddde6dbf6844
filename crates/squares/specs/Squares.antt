-- generate_bezier of fit.rs: the curve of the least squares for marks at given parameters. Definitions only.
use Rattle.std.specs.Prelude.{List, ◌-◌, length, Float}
use Rattle.float.specs.Calc.{Calc, ◌>>=◌}
use Rattle.plane.specs.declared.Point.{Point}
use Rattle.plane.specs.declared.Curve.{Curve}
use Rattle.marks.specs.Marks.{mark_at}
use Rattle.squares.specs.Sums.{sums_of}
use Rattle.squares.specs.Solve.{alphas_of, place_of}

unfoldable pub generate_of : List Float → List Float → Point → Point → Calc Curve
generate_of ms ts st et = do
  s ← sums_of ms ts st et
  a ← alphas_of s
  place_of (mark_at ms 0) (mark_at ms (length ts - 1)) st et a
