-- count_x_axis_crossings and flat_enough of find_roots.rs. Definitions only.
use Rattle.std.specs.Prelude.{ℕ, ◌+◌, Bool, false, ◌&&◌, cond, Float}
use Rattle.std.specs.Float.{binary64}
use Rattle.std.specs.Float.Ieee.{of_bits, lt, le, eq}
use Rattle.float.specs.Number.{f0, signum, max_of}
use Rattle.float.specs.Calc.{Calc, give, ◌>>=◌, ◌-!◌}
use Rattle.plane.specs.declared.Point.{Point}
use Rattle.quintic.specs.declared.points.Section.{Section}
use Rattle.flat.specs.Line.{coefficients_of, factor_of, distance_to}

-- a height below zero beside one that is not: both zeros are not below zero
unfoldable pub crosses : Float → Float → ℕ
crosses y1 y2 = cond (lt y1 f0 && le f0 y2) 1 (cond (le f0 y1 && lt y2 f0) 1 0)

unfoldable pub crossings : Section → ℕ
crossings s =
    crosses s.w1.y s.w2.y
    + crosses s.w2.y s.w3.y
    + crosses s.w3.y s.w4.y
    + crosses s.w4.y s.w5.y
    + crosses s.w5.y s.w6.y

-- two tests in turn: where the first fails the second is not made
infixr 40 ◌&&!◌
unfoldable pub ◌&&!◌ : Calc Bool → Calc Bool → Calc Bool
m &&! n = do
  b ← m
  cond b n (give false)

-- whether the height of q lies in a direction from that of p, by signum: 1 at plus zero, -1 at minus zero
unfoldable pub goes_on : Float → Point → Point → Calc Bool
goes_on y-direction p q = do
  rise ← q.y -! p.y
  give (eq (signum rise) y-direction)

unfoldable pub one_direction : Section → Calc Bool
one_direction s = do
  rise ← s.w2.y -! s.w1.y
  goes_on (signum rise) s.w2 s.w3 &&! (goes_on (signum rise) s.w3 s.w4 &&! (goes_on (signum rise) s.w4 s.w5 &&! goes_on (signum rise) s.w5 s.w6))

-- 0.1
abbrev pub flat-enough : Float
flat-enough = of_bits binary64 0x3fb9_9999_9999_999a

-- the largest distance from the baseline, from zero on; the divisor is the same for all six points
unfoldable pub near_baseline : Section → Calc Bool
near_baseline s = do
  l ← coefficients_of s.w1 s.w6
  factor ← factor_of l
  d1 ← distance_to l factor s.w1
  d2 ← distance_to l factor s.w2
  d3 ← distance_to l factor s.w3
  d4 ← distance_to l factor s.w4
  d5 ← distance_to l factor s.w5
  d6 ← distance_to l factor s.w6
  give (le (max_of (max_of (max_of (max_of (max_of (max_of f0 d1) d2) d3) d4) d5) d6) flat-enough)

unfoldable pub flat_enough : Section → Calc Bool
flat_enough s = one_direction s &&! near_baseline s
