-- The curve of the least squares: what the code makes of its three stages, and what callers need of it. Assumes nothing.
use mathlib.Core.Path.{◌≡◌, sym, ap, ◌∙◌}
use mathlib.Core.Bool.{true, false}
use mathlib.Core.List.{List}
use Prim.Native.Nat.{ℕ, ◌-◌}
use lib.ListN.{length}
use lib.Ieee.{Float}
use Rattle.float.specs.Calc.{Calc, ◌>>=◌}
use Rattle.float.specs.Answer as Answer
use Rattle.float.specs.Answer.{Answer, ok, refused, outcome}
use Rattle.float.proofs.Truth.{and_right}
use Rattle.float.proofs.Answers.{Fine, outcome_ok, outcome_no, outcome-then}
use Rattle.plane.specs.declared.Point.{Point}
use Rattle.plane.specs.declared.Curve.{Curve}
use Rattle.marks.specs.Marks.{mark_at}
use Rattle.squares.specs.Sums.{sums_of}
use Rattle.squares.specs.Solve.{alphas_of, place_of}
use Rattle.squares.specs.Squares.{generate_of}
use Rattle.squares.specs.Tests.{sums_finite}
use Rattle.squares.specs.declared.sums.Sums.{Sums}
use Rattle.squares.specs.declared.solve.Alphas.{Alphas}
use Rattle.squares.proofs.Tallies.{sums_same}
use Rattle.squares.proofs.Controls.{GoodCurve, place-ends, place_good}

module _ (ms ts : List Float) (st et : Point) where
  abbrev placed : Alphas → Calc Curve
  placed a = place_of (mark_at ms 0) (mark_at ms (length ts - 1)) st et a

  abbrev solved : Sums → Calc Curve
  solved s = do placed (← alphas_of s)

  -- ---- for every caller: the curve goes from the first mark to the last, and is finite where the run was fine
  pub generate_ends : let c = (generate_of ms ts st et).val in (c.start ≡ mark_at ms 0) × (c.end ≡ mark_at ms (length ts - 1))
  unfolding generate_of
  generate_ends = place-ends (mark_at ms 0) (mark_at ms (length ts - 1)) st et _

  pub generate_good : Fine (generate_of ms ts st et) → GoodCurve (generate_of ms ts st et).val
  unfolding generate_of
  generate_good h = place_good (mark_at ms 0) (mark_at ms (length ts - 1)) st et _ (and_right (alphas_of (sums_of ms ts st et).val).fine _ (and_right (sums_of ms ts st et).fine _ h))

  -- ---- for the code: the stages in turn
  module _ (s : Sums) (is : s ≡ (sums_of ms ts st et).val) where
    pub generate_off : sums_finite s ≡ false → refused 6 ≡ outcome (generate_of ms ts st et)
    unfolding generate_of
    generate_off h = sym (outcome-then (sums_of ms ts st et) solved ∙ ap (λ (x : Answer Sums). Answer.◌>>=◌ x (λ s. outcome (solved s))) (outcome_no (sums_of ms ts st et) (sums_same ms ts st et ∙ rw is at h)))

    module _ (h : sums_finite s ≡ true) where
      summed : outcome (generate_of ms ts st et) ≡ Answer.◌>>=◌ (outcome (alphas_of s)) (λ a. outcome (placed a))
      unfolding generate_of
      summed =
          outcome-then (sums_of ms ts st et) solved
          ∙ ap (λ (x : Answer Sums). Answer.◌>>=◌ x (λ s. outcome (solved s))) (outcome_ok (sums_of ms ts st et) (sums_same ms ts st et ∙ rw is at h))
          ∙ ap (λ (x : Sums). outcome (solved x)) (sym is)
          ∙ outcome-then (alphas_of s) placed

      pub generate_lost : (q : ℕ) → refused q ≡ outcome (alphas_of s) → refused q ≡ outcome (generate_of ms ts st et)
      generate_lost q e = sym (summed ∙ ap (λ (x : Answer Alphas). Answer.◌>>=◌ x (λ a. outcome (placed a))) (sym e))

      pub generate_on : (a : Alphas) → ok a ≡ outcome (alphas_of s) → {first last : Point} → first ≡ mark_at ms 0 → last ≡ mark_at ms (length ts - 1) → {r : Answer Curve} → r ≡ outcome (place_of first last st et a) → r ≡ outcome (generate_of ms ts st et)
      generate_on a e f l k = simp (f, l) at k ∙ sym (summed ∙ ap (λ (x : Answer Alphas). Answer.◌>>=◌ x (λ a. outcome (placed a))) (sym e))
