-- The determinants, the alphas and the controls of fit.rs's generate_bezier. Definitions only.
use Rattle.std.specs.Prelude.{◌||◌, cond, Float}
use Rattle.std.specs.Float.{binary64}
use Rattle.std.specs.Float.Ieee.{of_bits, lt}
use Rattle.float.specs.Number.{f0, f3, abs}
use Rattle.float.specs.Calc.{Calc, give, ◌>>=◌, ◌-!◌, ◌*!◌, ◌/!◌}
use Rattle.plane.specs.Plane.{plus, times, distance_of}
use Rattle.plane.specs.declared.Point.{Point}
use Rattle.plane.specs.declared.Curve.{Curve}
use Rattle.squares.specs.declared.sums.Sums.{Sums}
use Rattle.squares.specs.declared.solve.Determinants.{Determinants}
use Rattle.squares.specs.declared.solve.Alphas.{Alphas}

-- 1e-4 and 1e-6
abbrev pub f1e_4 : Float
f1e_4 = of_bits binary64 0x3f1a_36e2_eb1c_432d

abbrev pub f1e_6 : Float
f1e_6 = of_bits binary64 0x3eb0_c6f7_a0b5_ed8d

unfoldable pub determinants_of : Sums → Calc Determinants
determinants_of s = do
  c0-c1 ← (← s.c00 *! s.c11) -! (← s.c01 *! s.c01)
  c0-x ← (← s.c00 *! s.x1) -! (← s.c01 *! s.x0)
  x-c1 ← (← s.x0 *! s.c11) -! (← s.x1 *! s.c01)
  give (record { det_c0_c1 = c0-c1; det_c0_x = c0-x; det_x_c1 = x-c1 })

unfoldable pub quotients_of : Determinants → Calc Alphas
quotients_of d = do
  l ← d.det_x_c1 /! d.det_c0_c1
  r ← d.det_c0_x /! d.det_c0_c1
  give (record { alpha_l = l; alpha_r = r })

-- both alphas are 0 where the first determinant is near 0; the other two are worked out all the same
unfoldable pub alphas_of : Sums → Calc Alphas
alphas_of s = do
  d ← determinants_of s
  cond (lt (abs d.det_c0_c1) f1e_4) (give (record { alpha_l = f0; alpha_r = f0 })) (quotients_of d)

-- the curve whose controls stand l and r out along the tangents
unfoldable pub curve_of : Point → Point → Point → Point → Float → Float → Calc Curve
curve_of first last st et l r = do
  cp1 ← plus first (← times st l)
  cp2 ← plus last (← times et r)
  give (record { start = first; cp1 = cp1; cp2 = cp2; end = last })

-- the Wu/Barsky heuristic: where an alpha is below 1e-6 of the distance of the ends, both controls stand a third of it out
unfoldable pub place_of : Point → Point → Point → Point → Alphas → Calc Curve
place_of first last st et a = do
  seg-length ← distance_of first last
  epsilon ← f1e_6 *! seg-length
  cond (lt a.alpha_l epsilon || lt a.alpha_r epsilon)
      (do
        dist ← seg-length /! f3
        curve_of first last st et dist dist)
      (curve_of first last st et a.alpha_l a.alpha_r)
