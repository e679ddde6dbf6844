-- The baseline's formulas, which the document sets. Definitions only.
use Rattle.std.specs.Prelude.{Float}
use Rattle.std.specs.Float.Ieee.{neg}
use Rattle.float.specs.Number.{abs}
use Rattle.float.specs.Calc.{Calc, give, ◌>>=◌, ◌+!◌, ◌-!◌, ◌*!◌, ◌/!◌}
use Rattle.root.specs.Operation.{sqrt! }
use Rattle.plane.specs.declared.Point.{Point}
use Rattle.flat.specs.declared.line.Line.{Line}

-- a = y1 - y0, b = x0 - x1, c = -(a·x0 + b·y0)
unfoldable pub coefficients_of : Point → Point → Calc Line
coefficients_of from to = do
  a ← to.y -! from.y
  b ← from.x -! to.x
  s ← (← a *! from.x) +! (← b *! from.y)
  give (record { a = a; b = b; c = neg s })

-- sqrt(a² + b²)
unfoldable pub factor_of : Line → Calc Float
factor_of l = do sqrt! (← (← l.a *! l.a) +! (← l.b *! l.b))

-- |a·x + b·y + c| / sqrt(a² + b²)
unfoldable pub distance_to : Line → Float → Point → Calc Float
distance_to l factor p = do
  d ← (← (← l.a *! p.x) +! (← l.b *! p.y)) +! l.c
  abs d /! factor
