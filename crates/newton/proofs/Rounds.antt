-- One round of refinement, by the tests that the code makes. Assumes nothing.
use mathlib.Core.Path.{◌≡◌, refl, sym, ap, ◌∙◌}
use mathlib.Core.Bool.{Bool, true, false, ◌&&◌, ◌||◌, cond}
use Prim.Native.Nat.{ℕ, suc}
use lib.Ieee.{Float, lt, eq}
use Rattle.float.specs.Number.{finite, f0, abs}
use Rattle.float.specs.Calc.{Calc, give, ◌>>=◌, ◌-!◌, ◌/!◌}
use Rattle.float.specs.Answer.{Answer, ok, refused, unless, outcome}
use Rattle.float.specs.Answer.{◌>>=◌ as chain}
use Rattle.float.proofs.Truth.{and_assoc}
use Rattle.float.proofs.Answers.{outcome_ok, outcome_no, outcome-then}
use Rattle.plane.specs.declared.Point.{Point}
use Rattle.plane.specs.declared.Curve.{Curve}
use Rattle.cubic.specs.Basis.{casteljau4}
use Rattle.newton.specs.Newton.{vertices_of, ratio_of, refine_by, refine, into_unit, epsilon}
use Rattle.newton.specs.Tests.{FractionBy, vertices_finite}
use Rattle.newton.specs.declared.Vertices.{Vertices}
use Rattle.newton.specs.declared.Ratio.{Ratio}
use Rattle.cubic.proofs.Fine.{casteljau4-fine}
use Rattle.newton.proofs.Fine.{vertices_same}
use Rattle.newton.proofs.Steps.{through}

module _ (c : Curve) (q : Vertices) (p : Point) (t : Float) where
  abbrev Q : Calc Point
  Q = casteljau4 t c.start c.cp1 c.cp2 c.end

  abbrev R : Ratio
  R = (ratio_of Q.val q p t).val

  -- the rounds after this one
  abbrev later : ℕ → Calc Float
  later n = do refine_by c q p n (← t -! (← R.numerator /! R.denominator))

  round_is : (n : ℕ) → outcome (refine_by c q p (suc n) t) ≡ unless 6 (finite R.numerator && finite R.denominator) (outcome (cond (lt (abs R.numerator) epsilon || eq R.denominator f0) (give t) (later n)))
  unfolding refine_by outcome
  round_is n =
      let K = cond (lt (abs R.numerator) epsilon || eq R.denominator f0) (give t) (later n) in
      ap (λ (x : Bool). unless 6 x (ok K.val)) (sym (and_assoc Q.fine (ratio_of Q.val q p t).fine K.fine) ∙ ap (λ (x : Bool). x && K.fine) (through Q (casteljau4-fine t _ _ _ _) q p t))
      ∙ both_tests (finite R.numerator && finite R.denominator) K.fine (ok K.val)
    where
      both_tests : {A : Type 0} (a b : Bool) (x : Answer A) → unless 6 (a && b) x ≡ unless 6 a (unless 6 b x)
      both_tests true b x = refl
      both_tests false b x = refl

  -- as the code comes to it: qt is the curve's point, r the fraction, a the numerator's magnitude
  pub fraction : (qt : Point) (r : Ratio) (a : Float) → qt ≡ Q.val → r ≡ (ratio_of qt q p t).val → a ≡ abs r.numerator → FractionBy (refine_by c q p) t r (lt a epsilon)
  fraction qt r a at of size n = rw (size, of, at) (round_is n)

-- ---- the whole: the vertices q, the rounds, and into 0..1
module _ (c : Curve) (p : Point) (t : Float) (n : ℕ) where
  abbrev end : Float → Calc Float
  end u = give (into_unit u)

  abbrev rounds : Vertices → Calc Float
  rounds q = ◌>>=◌ (refine_by c q p n t) end

  refine-then : outcome (refine c p t n) ≡ chain (outcome (vertices_of c)) (λ q. outcome (rounds q))
  unfolding refine
  refine-then = outcome-then (vertices_of c) rounds

  module _ (q : Vertices) (is : q ≡ (vertices_of c).val) where
    pub refine_off : vertices_finite q ≡ false → refused 6 ≡ outcome (refine c p t n)
    refine_off h = sym (refine-then ∙ ap (λ a. chain a (λ q. outcome (rounds q))) (outcome_no (vertices_of c) (vertices_same c ∙ ap vertices_finite (sym is) ∙ h)))

    module _ (good : vertices_finite q ≡ true) where
      refine_on : outcome (refine c p t n) ≡ chain (outcome (refine_by c q p n t)) (λ u. outcome (end u))
      refine_on =
          refine-then
          ∙ ap (λ a. chain a (λ q. outcome (rounds q))) (outcome_ok (vertices_of c) (vertices_same c ∙ ap vertices_finite (sym is) ∙ good))
          ∙ outcome-then (refine_by c (vertices_of c).val p n t) end
          ∙ ap (λ q. chain (outcome (refine_by c q p n t)) (λ u. outcome (end u))) (sym is)

      pub refine_stop : (k : ℕ) → refused k ≡ outcome (refine_by c q p n t) → refused k ≡ outcome (refine c p t n)
      refine_stop k h = sym (refine_on ∙ ap (λ a. chain a (λ u. outcome (end u))) (sym h))

      pub refine_end : (u : Float) → ok u ≡ outcome (refine_by c q p n t) → ok (into_unit u) ≡ outcome (refine c p t n)
      unfolding outcome
      refine_end u h = sym (refine_on ∙ ap (λ a. chain a (λ u. outcome (end u))) (sym h))
