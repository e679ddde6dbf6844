-- The rounds of a search. Assumes nothing.
use Rattle.std.proofs.Common.{Result, Ok, Err, Option, Some, None}
use mathlib.Core.Path.{◌≡◌, sym, ap, ◌∙◌, subst}
use mathlib.Core.Bool.{Bool, true, false, ◌&&◌, ◌||◌, cond}
use Prim.Native.Nat.{ℕ, suc, ◌+◌, ◌-◌, ◌≤◌, ◌<◌}
use native.Mathlib.Omega.{arith}
use lib.Ieee.{Float, binary64, eq, sub, div}
use Rattle.float.specs.Number.{finite, f0}
use Rattle.float.specs.Calc.{Calc, give, ◌>>=◌, ◌-!◌, ◌/!◌}
use Rattle.float.specs.Answer.{Answer, ok, refused, outcome}
use Rattle.float.specs.declared.refusal.Refusal.{Refusal}
use Rattle.float.specs.declared.refusal.Refusal.TheVariants.{NotFinite}
use Rattle.float.proofs.Truth.{and-false}
use Rattle.float.proofs.Strict.{Fin, sub-finite}
use Rattle.float.proofs.Answers.{granted, denied}
use Rattle.newton.specs.Tests.{onward, FractionBy}
use Rattle.newton.specs.declared.Ratio.{Ratio}

-- ---- one round, by the tests that the code makes of its fraction
module _ (search : ℕ → Float → Calc Float) (t : Float) (r : Ratio) (near : Bool) (by : FractionBy search t r near) where
  abbrev good : Bool
  good = finite r.numerator && finite r.denominator

  abbrev ends : Bool
  ends = near || eq r.denominator f0

  abbrev u : Float
  u = sub binary64 t (div binary64 r.numerator r.denominator)

  -- the rounds after this one
  abbrev later : ℕ → Calc Float
  later n = do search n (← t -! (← r.numerator /! r.denominator))

  pub round_lost : good ≡ false → (n : ℕ) → outcome (search (suc n) t) ≡ onward search n t (Err NotFinite)
  unfolding onward
  round_lost h n = by n ∙ sym (denied 6 _ h)

  module _ (h : good ≡ true) where
    left_is : (n : ℕ) (b : Bool) → ends ≡ b → outcome (search (suc n) t) ≡ outcome (cond b (give t) (later n))
    left_is n b e = by n ∙ sym (granted 6 _ h) ∙ ap (λ (b : Bool). outcome (cond b (give t) (later n))) e

    pub round_stops : ends ≡ true → (n : ℕ) → outcome (search (suc n) t) ≡ onward search n t (Ok None)
    unfolding onward outcome
    round_stops e n = left_is n true e

    module _ (on : ends ≡ false) where
      pub round_next : Fin u → (n : ℕ) → outcome (search (suc n) t) ≡ onward search n t (Ok (Some u))
      unfolding onward
      round_next f n = left_is n false on ∙ same_later (sub-finite binary64 _ _ f).1
        where
          same_later : Fin (div binary64 r.numerator r.denominator) → outcome (later n) ≡ outcome (search n u)
          same_later d = unfold outcome in simp (d, f)

      pub round_flown : finite u ≡ false → (n : ℕ) → outcome (search (suc n) t) ≡ onward search n t (Err NotFinite)
      unfolding onward
      round_flown f n = left_is n false on ∙ off
        where
          off : outcome (later n) ≡ refused 6
          off = unfold outcome in simp (f, and-false)

-- ---- the loop: what is left to answer, with n - i rounds to go from t
module _ (search : ℕ → Float → Calc Float) (n i : ℕ) (t : Float) (whole : Answer Float) (left : whole ≡ outcome (search (n - i) t)) where
  -- after a round that came to r
  pub turned : i < n → (r : Result (Option Float) Refusal) → ((k : ℕ) → outcome (search (suc k) t) ≡ onward search k t r) → whole ≡ onward search (n - (i + 1)) t r
  turned more r turn = left ∙ subst (λ (k : ℕ). outcome (search k t) ≡ onward search (n - (i + 1)) t r) (back n i more) (turn (n - (i + 1)))
    where
      back : (n i : ℕ) → i < n → suc (n - (i + 1)) ≡ n - i
      back n i h = omega arith

  -- and after the last
  pub at_end : n ≤ i → search 0 t ≡ give t → ok t ≡ whole
  unfolding outcome
  at_end last none = sym (left ∙ ap (λ (k : ℕ). outcome (search k t)) (past n i last) ∙ ap outcome none)
    where
      past : (n i : ℕ) → n ≤ i → n - i ≡ 0
      past n i h = omega arith
