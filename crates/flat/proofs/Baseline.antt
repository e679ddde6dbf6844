-- Tests in turn; a test against the baseline was fine exactly where its distances and their divisor are finite.
-- Assumes nothing.
use mathlib.Core.Path.{◌≡◌, refl, sym, ap, ◌∙◌}
use mathlib.Core.Bool.{Bool, true, false, ◌&&◌}
use lib.Ieee.{Float, nan, inf, fin, binary64, le, neg, sub}
use Rattle.std.proofs.Common.{Result, Ok, Err}
use Rattle.float.specs.Number.{finite, f0, abs, signum, max_of}
use Rattle.float.specs.Calc.{Calc}
use Rattle.float.specs.Answer.{ok, refused, outcome}
use Rattle.float.proofs.Truth.{never, and_left, and_right, and-true, and-false, same, is_so}
use Rattle.float.proofs.Strict.{Fin, add-finite, mul-finite, div-finite}
use Rattle.float.proofs.Answers.{Fine}
use Rattle.root.specs.Root.{sqrt}
use Rattle.plane.specs.declared.Point.{Point}
use Rattle.quintic.specs.declared.points.Section.{Section}
use Rattle.flat.specs.Line.{coefficients_of, factor_of, distance_to}
use Rattle.flat.specs.Flat.{◌&&!◌, goes_on, one_direction, flat-enough, near_baseline}
use Rattle.flat.specs.Tests.{test_in, as_test, run_of, held_in}
use Rattle.flat.specs.declared.flat.Lost.{Lost}
use Rattle.flat.specs.declared.line.Line.{Line}

-- ---- a result and its run
pub back : (r : Result Bool Lost) → r ≡ as_test (run_of r)
unfolding as_test run_of
back (Ok b) = refl
back (Err l) = refl

pub round : (m : Calc Bool) → run_of (as_test m) ≡ m
unfolding as_test run_of
round m = go m.val m.fine
  where
    go : (v f : Bool) → run_of (test_in f v) ≡ record { val = v; fine = f }
    go v true = refl
    go v false = refl

-- ---- two tests in turn
module _ (m n : Calc Bool) where
  pub failed : m.val ≡ false → as_test m ≡ as_test (m &&! n)
  unfolding as_test ◌&&!◌
  failed h = simp (h, and-true)

  pub held_on : m.val ≡ true → m.fine ≡ true → as_test n ≡ as_test (m &&! n)
  unfolding as_test ◌&&!◌
  held_on h k = simp (h, k)

  pub held_lost : m.val ≡ true → m.fine ≡ false → Err (record { holds = n.val }) ≡ as_test (m &&! n)
  unfolding as_test ◌&&!◌
  held_lost h k = simp (h, k)

pub both : (t u : Result Bool Lost) (m n : Calc Bool) → t ≡ as_test m → u ≡ as_test n → as_test (run_of t &&! run_of u) ≡ as_test (m &&! n)
both t u m n e f = ap (λ x. as_test (x &&! run_of u)) (ap run_of e ∙ round m) ∙ ap (λ y. as_test (m &&! y)) (ap run_of f ∙ round n)

pub held_is : (t : Result Bool Lost) (m : Calc Bool) → t ≡ as_test m → held_in t ≡ m.val
held_is t m e = ap held_in e ∙ ap (λ (x : Calc Bool). x.val) (round m)

-- ---- what is left to answer, by a test
pub answered : (m : Calc Bool) (b : Bool) → Ok b ≡ as_test m → ok b ≡ outcome m
unfolding run_of outcome
answered m b e = ap outcome (ap run_of e ∙ round m)

pub unanswered : (m : Calc Bool) (l : Lost) → Err l ≡ as_test m → refused 6 ≡ outcome m
unfolding run_of outcome
unanswered m l e = ap outcome (ap run_of e ∙ round m)

-- ---- the direction of the first two heights
module _ (s : Section) where
  abbrev rise : Float
  rise = sub binary64 s.w2.y s.w1.y

  -- whether the others go that way
  abbrev pub others : Float → Calc Bool
  others d = goes_on d s.w2 s.w3 &&! (goes_on d s.w3 s.w4 &&! (goes_on d s.w4 s.w5 &&! goes_on d s.w5 s.w6))

  pub level : finite rise ≡ false → Err (record { holds = (others (signum rise)).val }) ≡ as_test (one_direction s)
  unfolding one_direction as_test
  level h = simp h

  pub rising : finite rise ≡ true → as_test (others (signum rise)) ≡ as_test (one_direction s)
  unfolding one_direction as_test
  rising h = simp h

-- ---- the line
abs-back : (x : Float) → Fin (abs x) → Fin x
unfolding finite abs
abs-back nan h = h
abs-back (inf s) h = h
abs-back (fin s m e) h = refl

pub neg-back : (x : Float) → Fin (neg x) → Fin x
unfolding finite neg
neg-back nan h = h
neg-back (inf s) h = h
neg-back (fin s m e) h = refl

sqrt-back : (x : Float) → Fin (sqrt binary64 x) → Fin x
unfolding finite sqrt
sqrt-back nan h = h
sqrt-back (inf true) h = never h
sqrt-back (inf false) h = never h
sqrt-back (fin s m e) h = refl

pub coefficients-fine : (p q : Point) → Fin (coefficients_of p q).val.c → Fine (coefficients_of p q)
unfolding coefficients_of
coefficients-fine p q g =
    let s = neg-back _ g in
    let r = add-finite binary64 _ _ s in
    let a = mul-finite binary64 _ _ r.0 in
    let b = mul-finite binary64 _ _ r.1 in
    cc

factor-fine : (l : Line) → Fin (factor_of l).val → Fine (factor_of l)
unfolding factor_of
factor-fine l g =
    let s = sqrt-back _ g in
    let r = add-finite binary64 _ _ s in
    cc

distance_fine : (l : Line) (f : Float) (p : Point) → Fin (distance_to l f p).val → Fine (distance_to l f p) × Fin l.c
unfolding distance_to
distance_fine l f p g =
    let d = abs-back _ (div-finite binary64 _ _ g) in
    let s = add-finite binary64 _ _ d in
    let r = add-finite binary64 _ _ s.0 in
    (cc, s.1)

-- ---- near the baseline
module _ (s : Section) where
  abbrev L : Line
  L = (coefficients_of s.w1 s.w6).val

  abbrev F : Float
  F = (factor_of L).val

  abbrev D : Point → Float
  D p = (distance_to L F p).val

  abbrev tests : Bool
  tests = finite F && ((finite (D s.w1) && (finite (D s.w2) && finite (D s.w3))) && (finite (D s.w4) && (finite (D s.w5) && finite (D s.w6))))

  near_on : tests ≡ true → Fine (near_baseline s)
  unfolding near_baseline
  near_on h =
      let r = and_right (finite F) _ h in
      let a = and_left _ _ r in
      let b = and_right (finite (D s.w1) && (finite (D s.w2) && finite (D s.w3))) _ r in
      let a' = and_right (finite (D s.w1)) _ a in
      let b' = and_right (finite (D s.w4)) _ b in
      let d1 = distance_fine L F s.w1 (and_left _ _ a) in
      let d2 = distance_fine L F s.w2 (and_left _ _ a') in
      let d3 = distance_fine L F s.w3 (and_right (finite (D s.w2)) _ a') in
      let d4 = distance_fine L F s.w4 (and_left _ _ b) in
      let d5 = distance_fine L F s.w5 (and_left _ _ b') in
      let d6 = distance_fine L F s.w6 (and_right (finite (D s.w5)) _ b') in
      let f = factor-fine L (and_left _ _ h) in
      let l = coefficients-fine s.w1 s.w6 d1.1 in
      simp (l, f, d1.0, d2.0, d3.0, d4.0, d5.0, d6.0)

  near_off : tests ≡ false → (near_baseline s).fine ≡ false
  unfolding near_baseline factor_of distance_to
  near_off h = go (finite F) (finite (D s.w1)) (finite (D s.w2)) (finite (D s.w3)) (finite (D s.w4)) (finite (D s.w5)) (finite (D s.w6)) refl refl refl refl refl refl refl h
    where
      go : (f a b c d e g : Bool) → finite F ≡ f → finite (D s.w1) ≡ a → finite (D s.w2) ≡ b → finite (D s.w3) ≡ c → finite (D s.w4) ≡ d → finite (D s.w5) ≡ e → finite (D s.w6) ≡ g
          → f && ((a && (b && c)) && (d && (e && g))) ≡ false → (near_baseline s).fine ≡ false
      go false a b c d e g q0 q1 q2 q3 q4 q5 q6 h = simp (q0, and-false)
      go true false b c d e g q0 q1 q2 q3 q4 q5 q6 h = simp (q1, and-false)
      go true true false c d e g q0 q1 q2 q3 q4 q5 q6 h = simp (q2, and-false)
      go true true true false d e g q0 q1 q2 q3 q4 q5 q6 h = simp (q3, and-false)
      go true true true true false e g q0 q1 q2 q3 q4 q5 q6 h = simp (q4, and-false)
      go true true true true true false g q0 q1 q2 q3 q4 q5 q6 h = simp (q5, and-false)
      go true true true true true true false q0 q1 q2 q3 q4 q5 q6 h = simp (q6, and-false)
      go true true true true true true true q0 q1 q2 q3 q4 q5 q6 h = never (sym h)

  pub near_is : as_test (record { val = le (max_of (max_of (max_of (max_of (max_of (max_of f0 (D s.w1)) (D s.w2)) (D s.w3)) (D s.w4)) (D s.w5)) (D s.w6)) flat-enough; fine = tests }) ≡ as_test (near_baseline s)
  unfolding near_baseline
  near_is = ap (λ (b : Bool). as_test (record { val = (near_baseline s).val; fine = b })) (same tests (near_baseline s).fine near_on (λ k. is_so (near_baseline s).fine tests k near_off))
