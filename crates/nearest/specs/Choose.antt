-- The choice among the candidates of nearest_point_bezier_root_finder.rs. Definitions only.
use Rattle.std.specs.Prelude.{Bool, ◌&&◌, cond, List, [], ◌∷◌, ◌++◌, Float}
use Rattle.std.specs.Float.Ieee.{lt, le}
use Rattle.float.specs.Number.{f0, f1}
use Rattle.float.specs.Calc.{Calc, give, ◌>>=◌}
use Rattle.plane.specs.Plane.{minus, dot_of}
use Rattle.plane.specs.declared.Point.{Point}
use Rattle.plane.specs.declared.Curve.{Curve}
use Rattle.cubic.specs.Basis.{point_at}

-- a parameter and the squared distance there
pub record Nearest : Type 0 where
  pub t : Float
  pub distance_sq_is : Float

unfoldable pub distance_sq : Curve → Point → Float → Calc Float
distance_sq c p t = do
  offset ← minus (← point_at c t) p
  dot_of offset offset

-- the first candidate is 0
unfoldable pub start_of : Curve → Point → Calc Nearest
start_of c p = do
  d ← distance_sq c p f0
  give (record { t = f0; distance_sq_is = d })

-- a later candidate wins a tie
unfoldable pub better_of : Curve → Point → Float → Nearest → Calc Nearest
better_of c p t best = do
  d ← distance_sq c p t
  give (cond (le d best.distance_sq_is) (record { t = t; distance_sq_is = d }) best)

unfoldable pub closest : Curve → Point → List Float → Nearest → Calc Nearest
closest c p [] best = give best
closest c p (t ∷ ts) best = do
  best' ← better_of c p t best
  closest c p ts best'

-- strictly between 0 and 1
unfoldable pub inside : Float → Bool
inside t = lt f0 t && lt t f1

unfoldable pub within : List Float → List Float
within [] = []
within (t ∷ ts) = cond (inside t) (t ∷ within ts) (within ts)

-- 0, the roots strictly between 0 and 1 in the order found, then 1
unfoldable pub choose_of : Curve → Point → List Float → Calc Nearest
choose_of c p roots = do
  best ← start_of c p
  closest c p (within roots ++ f1 ∷ []) best
