-- find_x_intercept and find_x_intercept_newton_raphson of find_roots.rs. Definitions only.
use Rattle.std.specs.Prelude.{ℕ, zero, suc, ◌||◌, cond, Float}
use Rattle.std.specs.Float.{binary64}
use Rattle.std.specs.Float.Ieee.{of_bits, neg, le, eq}
use Rattle.float.specs.Number.{f0, abs}
use Rattle.float.specs.Calc.{Calc, give, ◌>>=◌, ◌-!◌, ◌/!◌}
use Rattle.quintic.specs.Points.{casteljau6}
use Rattle.quintic.specs.Numbers.{number5, number6, derivative6_of}
use Rattle.quintic.specs.declared.points.Section.{Section}
use Rattle.quintic.specs.declared.numbers.Six.{Six}
use Rattle.quintic.specs.declared.numbers.Five.{Five}
use Rattle.flat.specs.Line.{coefficients_of}

-- 1e-10
abbrev pub epsilon : Float
epsilon = of_bits binary64 0x3ddb_7cdf_d9d7_bdbb

unfoldable pub heights_of : Section → Six
heights_of s = record { y1 = s.w1.y; y2 = s.w2.y; y3 = s.w3.y; y4 = s.w4.y; y5 = s.w5.y; y6 = s.w6.y }

-- at most so many rounds, left where f(t) is within 1e-10 of 0 or f'(t) is 0
unfoldable pub newton_by : Six → Five → ℕ → Float → Calc Float
newton_by h d zero t = give t
newton_by h d (suc n) t = do
  numerator ← number6 t h
  denominator ← number5 t d
  cond (le (abs numerator) epsilon || eq denominator f0)
      (give t)
      (do newton_by h d n (← t -! (← numerator /! denominator)))

-- find_x_intercept_newton_raphson: 30 rounds
unfoldable pub newton : Six → Float → Calc Float
newton h t = do
  d ← derivative6_of h
  newton_by h d 30 t

-- the baseline's intercept -c/a, relative to the section
unfoldable pub guess_of : Section → Calc Float
guess_of s = do
  l ← coefficients_of s.w1 s.w6
  t ← (← neg l.c /! l.a) -! s.w1.x
  t /! (← s.w6.x -! s.w1.x)

unfoldable pub intercept_of : Section → Calc Float
intercept_of s = do
  t ← guess_of s
  newton (heights_of s) t

-- the root that find_bezier_roots takes from a flat section: the x of its point at the intercept
unfoldable pub root_of : Section → Calc Float
root_of s = do
  intercept ← intercept_of s
  p ← casteljau6 intercept s
  give p.x
