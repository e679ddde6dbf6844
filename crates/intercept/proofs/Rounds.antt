-- Newton's method for a root of six heights, by the tests that the code makes; and runs one after the other. Assumes nothing.
use mathlib.Core.Path.{◌≡◌, refl, sym, ap, ◌∙◌}
use mathlib.Core.Bool.{Bool, true, false, ◌&&◌, ◌||◌, cond}
use Prim.Native.Nat.{ℕ, suc}
use lib.Ieee.{Float, le, eq}
use Rattle.float.specs.Number.{finite, f0, abs}
use Rattle.float.specs.Calc.{Calc, give, ◌>>=◌, ◌-!◌, ◌/!◌}
use Rattle.float.specs.Answer.{Answer, ok, refused, unless, outcome}
use Rattle.float.specs.Answer.{◌>>=◌ as chain}
use Rattle.float.proofs.Answers.{outcome_ok, outcome_no, outcome-then}
use Rattle.quintic.specs.Numbers.{number5, number6}
use Rattle.quintic.specs.declared.numbers.Six.{Six}
use Rattle.quintic.specs.declared.numbers.Five.{Five}
use Rattle.quintic.proofs.Fine.{number5_same, number6_same}
use Rattle.intercept.specs.Intercept.{newton_by, epsilon}
use Rattle.newton.specs.Tests.{FractionBy}

-- ---- a run, and then another: what is left to answer
module _ {A B : Type 0} (m : Calc A) (f : A → Calc B) where
  pub goes_on : (a : A) → ok a ≡ outcome m → outcome (◌>>=◌ m f) ≡ outcome (f a)
  goes_on a h = outcome-then m f ∙ ap (λ x. chain x (λ a. outcome (f a))) (sym h)

  pub ends : (n : ℕ) → refused n ≡ outcome m → refused n ≡ outcome (◌>>=◌ m f)
  ends n h = sym (outcome-then m f ∙ ap (λ x. chain x (λ a. outcome (f a))) (sym h))

-- by a test of the value that tells whether the run was fine
module _ {A : Type 0} (m : Calc A) (test : A → Bool) (tells : m.fine ≡ test m.val) (a : A) (is : a ≡ m.val) where
  pub came : test a ≡ true → ok a ≡ outcome m
  came h = ap ok is ∙ sym (outcome_ok m (tells ∙ ap test (sym is) ∙ h))

  pub gone : test a ≡ false → refused 6 ≡ outcome m
  gone h = sym (outcome_no m (tells ∙ ap test (sym is) ∙ h))

-- ---- one round
module _ (h : Six) (d : Five) (t : Float) where
  abbrev N : Float
  N = (number6 t h).val

  abbrev M : Float
  M = (number5 t d).val

  -- the rounds after this one
  abbrev later : ℕ → Calc Float
  later n = do newton_by h d n (← t -! (← N /! M))

  abbrev rest : ℕ → Calc Float
  rest n = cond (le (abs N) epsilon || eq M f0) (give t) (later n)

  round_is : (n : ℕ) → outcome (newton_by h d (suc n) t) ≡ unless 6 (finite N && finite M) (outcome (rest n))
  unfolding newton_by outcome
  round_is n = simp (number6_same, number5_same) (tests (finite N) (finite M) (rest n).fine (ok (rest n).val))
    where
      tests : {A : Type 0} (a b c : Bool) (x : Answer A) → unless 6 (a && (b && c)) x ≡ unless 6 (a && b) (unless 6 c x)
      tests true true c x = refl
      tests true false c x = refl
      tests false b c x = refl

  -- as the code comes to it: x and y are the fraction's sides, a the numerator's magnitude
  pub fraction : (x y a : Float) → x ≡ N → y ≡ M → a ≡ abs x → FractionBy (newton_by h d) t (record { numerator = x; denominator = y }) (le a epsilon)
  fraction x y a of by size n = rw (size, of, by) (round_is n)
