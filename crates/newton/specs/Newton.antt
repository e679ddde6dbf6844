-- Newton's method, of fit.rs and of nearest_point.rs. Definitions only.
use Rattle.std.specs.Prelude.{◌||◌, cond, ℕ, zero, suc, Float}
use Rattle.std.specs.Float.{binary64}
use Rattle.std.specs.Float.Ieee.{of_bits, lt, eq}
use Rattle.float.specs.Number.{f0, f1, f2, f3, abs, clamp01, max_of, min_of}
use Rattle.float.specs.Calc.{Calc, give, ◌>>=◌, ◌+!◌, ◌-!◌, ◌/!◌}
use Rattle.plane.specs.Plane.{minus, times, dot_of}
use Rattle.plane.specs.declared.Point.{Point}
use Rattle.plane.specs.declared.Curve.{Curve}
use Rattle.cubic.specs.Basis.{point_at, casteljau2, casteljau3, casteljau4}
use Rattle.newton.specs.declared.Vertices.{Vertices}
use Rattle.newton.specs.declared.Ratio.{Ratio}

-- the control vertices of Q' and of Q''
unfoldable pub vertices_of : Curve → Calc Vertices
vertices_of c = do
  qn1 ← times (← minus c.cp1 c.start) f3
  qn2 ← times (← minus c.cp2 c.cp1) f3
  qn3 ← times (← minus c.end c.cp2) f3
  qnn1 ← times (← minus qn2 qn1) f2
  qnn2 ← times (← minus qn3 qn2) f2
  give (record { qn1 = qn1; qn2 = qn2; qn3 = qn3; qnn1 = qnn1; qnn2 = qnn2 })

-- numerator and denominator of f(t) / f'(t), with qt = Q(t) at hand
unfoldable pub ratio_of : Point → Vertices → Point → Float → Calc Ratio
ratio_of qt q p t = do
  qnt ← casteljau3 t q.qn1 q.qn2 q.qn3
  qnnt ← casteljau2 t q.qnn1 q.qnn2
  numerator ← dot_of (← minus qt p) qnt
  denominator ← (← dot_of qnt qnt) +! (← dot_of (← minus qt p) qnnt)
  give (record { numerator = numerator; denominator = denominator })

-- fit.rs's newton_raphson_root_find, Q(t) by `basis`: denominator 0 keeps t, otherwise the result is clamped to 0..1
unfoldable pub newton_by : Curve → Vertices → Point → Float → Calc Float
newton_by c q p t = do
  r ← ratio_of (← point_at c t) q p t
  cond (eq r.denominator f0)
      (give t)
      (do give (clamp01 (← t -! (← r.numerator /! r.denominator))))

-- the whole of it: the Rust works the vertices out anew for each mark
unfoldable pub newton : Curve → Point → Float → Calc Float
newton c p t = do
  q ← vertices_of c
  newton_by c q p t

-- 1e-8
abbrev pub epsilon : Float
epsilon = of_bits binary64 0x3e45_798e_e230_8c3a

-- nearest_point_on_curve_newton_raphson_with_estimate, Q(t) by de Casteljau: at most so many rounds, left where the numerator is
-- below 1e-8 in magnitude or the denominator is 0
unfoldable pub refine_by : Curve → Vertices → Point → ℕ → Float → Calc Float
refine_by c q p zero t = give t
refine_by c q p (suc n) t = do
  r ← ratio_of (← casteljau4 t c.start c.cp1 c.cp2 c.end) q p t
  cond (lt (abs r.numerator) epsilon || eq r.denominator f0)
      (give t)
      (do refine_by c q p n (← t -! (← r.numerator /! r.denominator)))

-- .max(0.0).min(1.0)
unfoldable pub into_unit : Float → Float
into_unit t = min_of (max_of t f0) f1

unfoldable pub refine : Curve → Point → Float → ℕ → Calc Float
refine c p t n = do
  q ← vertices_of c
  t' ← refine_by c q p n t
  give (into_unit t')
