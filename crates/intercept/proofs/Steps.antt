-- The root of a section, step by step as the code comes to it. Assumes nothing.
use mathlib.Core.Path.{◌≡◌, sym, ◌∙◌}
use mathlib.Core.Bool.{true, false}
use Prim.Native.Nat.{ℕ}
use lib.Ieee.{Float}
use Rattle.float.specs.Calc.{Calc, give, ◌>>=◌}
use Rattle.float.specs.Answer.{ok, refused, outcome}
use Rattle.plane.specs.declared.Point.{Point}
use Rattle.plane.specs.Range.{point_finite}
use Rattle.quintic.specs.Points.{casteljau6}
use Rattle.quintic.specs.Numbers.{derivative6_of}
use Rattle.quintic.specs.Tests.{five_finite}
use Rattle.quintic.specs.declared.points.Section.{Section}
use Rattle.quintic.specs.declared.numbers.Six.{Six}
use Rattle.quintic.specs.declared.numbers.Five.{Five}
use Rattle.quintic.proofs.Fine.{derivative_same, casteljau6_same}
use Rattle.intercept.specs.Intercept.{heights_of, guess_of, newton_by, newton, intercept_of, root_of}
use Rattle.intercept.proofs.Rounds.{goes_on, ends, came, gone}

-- ---- Newton's method, with the derivative d
module _ (h : Six) (t : Float) (d : Five) (is : d ≡ (derivative6_of h).val) where
  abbrev rounds : Five → Calc Float
  rounds d = newton_by h d 30 t

  pub newton_on : five_finite d ≡ true → outcome (newton_by h d 30 t) ≡ outcome (newton h t)
  unfolding newton
  newton_on k = sym (goes_on (derivative6_of h) rounds d (came (derivative6_of h) five_finite (derivative_same h) d is k))

  pub newton_off : five_finite d ≡ false → refused 6 ≡ outcome (newton h t)
  unfolding newton
  newton_off k = ends (derivative6_of h) rounds 6 (gone (derivative6_of h) five_finite (derivative_same h) d is k)

-- ---- the intercept, from the guess t
module _ (s : Section) where
  pub intercept_on : (t : Float) → ok t ≡ outcome (guess_of s) → outcome (newton (heights_of s) t) ≡ outcome (intercept_of s)
  unfolding intercept_of
  intercept_on t k = sym (goes_on (guess_of s) (newton (heights_of s)) t k)

  pub intercept_off : (q : ℕ) → refused q ≡ outcome (guess_of s) → refused q ≡ outcome (intercept_of s)
  unfolding intercept_of
  intercept_off q k = ends (guess_of s) (newton (heights_of s)) q k

-- ---- the root, with the section's point p at the intercept t
module _ (s : Section) where
  abbrev across : Float → Calc Float
  across t = do give (← casteljau6 t s).x

  pub root_none : (n : ℕ) → refused n ≡ outcome (intercept_of s) → refused n ≡ outcome (root_of s)
  unfolding root_of
  root_none n k = ends (intercept_of s) across n k

  module _ (t : Float) (at : ok t ≡ outcome (intercept_of s)) (p : Point) (is : p ≡ (casteljau6 t s).val) where
    abbrev out : Point → Calc Float
    out p = give p.x

    pub root_on : point_finite p ≡ true → ok p.x ≡ outcome (root_of s)
    unfolding root_of outcome
    root_on k = sym (goes_on (intercept_of s) across t at ∙ goes_on (casteljau6 t s) out p (came (casteljau6 t s) point_finite (casteljau6_same t s) p is k))

    pub root_off : point_finite p ≡ false → refused 6 ≡ outcome (root_of s)
    unfolding root_of
    root_off k = ends (casteljau6 t s) out 6 (gone (casteljau6 t s) point_finite (casteljau6_same t s) p is k) ∙ sym (goes_on (intercept_of s) across t at)
