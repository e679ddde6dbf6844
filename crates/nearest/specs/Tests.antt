-- What the inner functions return: words of their contracts alone, of which no public promise speaks. Definitions only.
use Rattle.float.specs.Calc.{Calc, ◌>>=◌}
use Rattle.std.specs.Prelude.{Float}
use Rattle.plane.specs.declared.Point.{Point}
use Rattle.plane.specs.declared.Curve.{Curve}
use Rattle.nearest.specs.Choose.{Nearest, better_of}
use Rattle.nearest.specs.declared.choose.Best.{Best}

-- a run in the code's struct, and back
unfoldable pub as_best : Calc Nearest → Best
as_best m = record { t = m.val.t; distance_sq = m.val.distance_sq_is; fine = m.fine }

unfoldable pub run_of : Best → Calc Nearest
run_of b = record { val = record { t = b.t; distance_sq_is = b.distance_sq }; fine = b.fine }

-- one candidate more
unfoldable pub try_of : Curve → Point → Best → Float → Best
try_of c p best t = as_best (do better_of c p t (← run_of best))
