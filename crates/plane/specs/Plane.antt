-- Points of the plane, operation by operation as in coordinate.rs and coord2.rs. Definitions only.
use Rattle.std.specs.Prelude.{Bool, ◌&&◌, cond, Float, Option, Some, None}
use Rattle.std.specs.Float.Ieee.{eq}
use Rattle.float.specs.Number.{f0, f1}
use Rattle.float.specs.Calc.{Calc, give, ◌>>=◌, ◌+!◌, ◌-!◌, ◌*!◌, ◌/!◌}
use Rattle.root.specs.Operation.{sqrt! }
use Rattle.plane.specs.declared.Point.{Point}

abbrev pub at : Float → Float → Point
at x y = record { x = x; y = y }

-- equal in both coordinates, as numbers: minus zero equals zero, and a NaN equals nothing
unfoldable pub equal : Point → Point → Bool
equal p q = eq p.x q.x && eq p.y q.y

unfoldable pub plus : Point → Point → Calc Point
plus p q = do
  x ← p.x +! q.x
  y ← p.y +! q.y
  give (at x y)

unfoldable pub minus : Point → Point → Calc Point
minus p q = do
  x ← p.x -! q.x
  y ← p.y -! q.y
  give (at x y)

unfoldable pub times : Point → Float → Calc Point
times p k = do
  x ← p.x *! k
  y ← p.y *! k
  give (at x y)

unfoldable pub dot_of : Point → Point → Calc Float
dot_of p q = do (← p.x *! q.x) +! (← p.y *! q.y)

unfoldable pub magnitude_of : Point → Calc Float
magnitude_of p = do sqrt! (← dot_of p p)

-- distance_to of coord2.rs takes the target's coordinates first
unfoldable pub distance_of : Point → Point → Calc Float
distance_of p target = do magnitude_of (← minus target p)

-- to_unit_vector: a vector of magnitude 0 has no direction, any other that of its product with 1 / magnitude
unfoldable pub direction_by : Point → Float → Calc (Option Point)
direction_by p magnitude = cond (eq magnitude f0) (give None) (do give (Some (← times p (← f1 /! magnitude))))

unfoldable pub direction_of : Point → Calc (Option Point)
direction_of p = do
  magnitude ← magnitude_of p
  direction_by p magnitude

-- the vector that each answer stands for: where there is no direction it is zero
unfoldable pub or_zero : Option Point → Point
or_zero (Some u) = u
or_zero None = at f0 f0

-- the unit vector as the Rust has it
unfoldable pub unit_of : Point → Calc Point
unit_of p = do give (or_zero (← direction_of p))
