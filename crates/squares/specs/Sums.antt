-- The 'C' and 'X' matrices of fit.rs's generate_bezier: sums over the marks in their order. Definitions only.
use Rattle.std.specs.Prelude.{List, ℕ, ◌-◌, length, get_or, Float}
use Rattle.std.specs.Float.{nan}
use Rattle.float.specs.Number.{f0, f1, f3}
use Rattle.float.specs.Calc.{Calc, give, ◌>>=◌, ◌+!◌, ◌-!◌, ◌*!◌}
use Rattle.float.specs.Folds.{upto}
use Rattle.plane.specs.Plane.{plus, minus, times, dot_of}
use Rattle.plane.specs.declared.Point.{Point}
use Rattle.marks.specs.Marks.{mark_at}
use Rattle.squares.specs.declared.sums.Weights.{Weights}
use Rattle.squares.specs.declared.sums.Sums.{Sums}

-- b0 to b3 at t. The Rust works b1 and b2 out twice, by the same operations.
unfoldable pub weights_of : Float → Calc Weights
weights_of t = do
  i ← f1 -! t
  b0 ← (← i *! i) *! i
  b1 ← (← f3 *! t) *! (← i *! i)
  b2 ← (← (← f3 *! t) *! t) *! i
  b3 ← (← t *! t) *! t
  give (record { b0 = b0; b1 = b1; b2 = b2; b3 = b3 })

-- tmp: a mark less the curve whose controls are its two ends
unfoldable pub tmp_of : Point → Point → Point → Weights → Calc Point
tmp_of first last p w = do minus p (← plus (← plus (← plus (← times first w.b0) (← times first w.b1)) (← times last w.b2)) (← times last w.b3))

-- the sums with one mark more, p at t
unfoldable pub gather_of : Point → Point → Point → Point → Point → Float → Sums → Calc Sums
gather_of st et first last p t s = do
  w ← weights_of t
  a0 ← times st w.b1
  a1 ← times et w.b2
  c00 ← s.c00 +! (← dot_of a0 a0)
  c01 ← s.c01 +! (← dot_of a0 a1)
  c11 ← s.c11 +! (← dot_of a1 a1)
  tmp ← tmp_of first last p w
  x0 ← s.x0 +! (← dot_of a0 tmp)
  x1 ← s.x1 +! (← dot_of a1 tmp)
  give (record { c00 = c00; c01 = c01; c11 = c11; x0 = x0; x1 = x1 })

-- the same for mark k of the marks ms at the parameters ts
unfoldable pub sum_at : List Float → List Float → Point → Point → ℕ → Sums → Calc Sums
sum_at ms ts st et k s = gather_of st et (mark_at ms 0) (mark_at ms (length ts - 1)) (mark_at ms k) (get_or ts k nan) s

abbrev pub zeros : Sums
zeros = record { c00 = f0; c01 = f0; c11 = f0; x0 = f0; x1 = f0 }

unfoldable pub sums_of : List Float → List Float → Point → Point → Calc Sums
sums_of ms ts st et = upto (length ts) zeros (sum_at ms ts st et)
