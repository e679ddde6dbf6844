-- A Newton step was fine exactly where its numerator, its denominator and the new parameter are finite. Assumes nothing.
use mathlib.Core.Path.{◌≡◌, refl, sym, ap, ◌∙◌}
use mathlib.Core.Bool.{Bool, true, false, ◌&&◌, cond}
use lib.Ieee.{Float, binary64, eq, sub, div, of_bits}
use Rattle.float.specs.Number.{finite, f0, clamp01}
use Rattle.float.specs.Calc.{Calc}
use Rattle.float.proofs.Truth.{and_left, and_right, and_implied, and-true, and-false, and_assoc, same, both, is_so}
use Rattle.float.proofs.Strict.{Fin, add-finite, sub-finite}
use Rattle.float.proofs.Answers.{Fine, pick-val, pick-fine}
use Rattle.plane.specs.declared.Point.{Point}
use Rattle.plane.specs.declared.Curve.{Curve}
use Rattle.plane.proofs.Fine.{Good, minus-fine, dot-fine, dot_bad}
use Rattle.cubic.specs.Basis.{point_at}
use Rattle.newton.specs.Newton.{vertices_of, ratio_of, newton_by, newton}
use Rattle.newton.specs.Tests.{as_step}
use Rattle.newton.specs.declared.Vertices.{Vertices}
use Rattle.newton.specs.declared.Ratio.{Ratio}
use Rattle.newton.specs.declared.Step.{Step}
use Rattle.cubic.proofs.Fine.{point-fine, casteljau2-fine, casteljau3-fine}
use Rattle.newton.proofs.Fine.{GoodVertices, vertices_fine}

-- ---- the fraction
module _ (qt : Point) (q : Vertices) (p : Point) (t : Float) where
  ratio_fine : Fin (ratio_of qt q p t).val.numerator → Fin (ratio_of qt q p t).val.denominator → Fine (ratio_of qt q p t) × Good qt × GoodVertices q
  unfolding ratio_of
  ratio_fine gn gd =
      let s = add-finite binary64 _ _ gd in
      let n = dot-fine _ _ gn in
      let d1 = dot-fine _ _ s.0 in
      let d2 = dot-fine _ _ s.1 in
      let off = minus-fine _ _ n.1 in
      let q1 = casteljau3-fine _ _ _ _ n.2 in
      let q2 = casteljau2-fine _ _ _ d2.2 in
      (cc, off.1, (q1.1, q1.2, q1.3, q2.1, q2.2))

  ratio_num : finite (ratio_of qt q p t).val.numerator ≡ false → (ratio_of qt q p t).fine ≡ false
  unfolding ratio_of
  ratio_num h = simp (dot_bad _ _ h, and-false)

  ratio_den : finite (ratio_of qt q p t).val.denominator ≡ false → (ratio_of qt q p t).fine ≡ false
  unfolding ratio_of
  ratio_den h = simp (h, and-false)

-- the curve's point by a run m whose end tells of it, and then the fraction: fine where both its sides are finite
pub through : (m : Calc Point) → (Good m.val → Fine m) → (q : Vertices) (p : Point) (t : Float)
    → let r = ratio_of m.val q p t in m.fine && r.fine ≡ finite r.val.numerator && finite r.val.denominator
through m back q p t =
    let r = ratio_of m.val q p t in
    same _ _
    (λ h. both _ _
    (is_so r.fine (finite r.val.numerator) (and_right m.fine _ h) (ratio_num m.val q p t))
    (is_so r.fine (finite r.val.denominator) (and_right m.fine _ h) (ratio_den m.val q p t)))
    (λ h.
    let f = ratio_fine m.val q p t (and_left _ _ h) (and_right (finite r.val.numerator) _ h) in
    both _ _ (back f.1) f.0)

-- ---- fit.rs's step
pick-finite : (b : Bool) (u : Float) → finite (cond b f0 u) ≡ cond b true (finite u)
unfolding finite of_bits
pick-finite true u = refl
pick-finite false u = refl

step-fine : (b pa ro fn fd fq fu : Bool) → pa && ro ≡ fn && fd → (fu ≡ true → fq ≡ true) → pa && (ro && cond b true (fq && (fu && true))) ≡ fn && (fd && cond b true fu)
step-fine b pa ro fn fd fq fu e f =
    ap (λ (x : Bool). pa && (ro && x)) (inner b)
    ∙ sym (and_assoc pa ro (cond b true fu))
    ∙ ap (λ (x : Bool). x && cond b true fu) e
    ∙ and_assoc fn fd (cond b true fu)
  where
    inner : (b : Bool) → cond b true (fq && (fu && true)) ≡ cond b true fu
    inner true = refl
    inner false = ap (λ (x : Bool). fq && x) (and-true fu) ∙ and_implied fq fu f

module _ (c : Curve) (q : Vertices) (p : Point) (t : Float) where
  abbrev R : Ratio
  R = (ratio_of (point_at c t).val q p t).val

  abbrev U : Float
  U = sub binary64 t (div binary64 R.numerator R.denominator)

  newton-val : (newton_by c q p t).val ≡ cond (eq R.denominator f0) t (clamp01 U)
  unfolding newton_by
  newton-val = pick-val (eq R.denominator f0) _ _

  newton-fine : (newton_by c q p t).fine ≡ finite R.numerator && (finite R.denominator && finite (cond (eq R.denominator f0) f0 U))
  unfolding newton_by
  newton-fine =
      let m = point_at c t in
      let b = eq R.denominator f0 in
      ap (λ (x : Bool). m.fine && ((ratio_of m.val q p t).fine && x)) (pick-fine b _ _)
      ∙ step-fine b m.fine (ratio_of m.val q p t).fine (finite R.numerator) (finite R.denominator) (finite (div binary64 R.numerator R.denominator)) (finite U) (through m (point-fine c t) q p t) (λ h. (sub-finite binary64 _ _ h).1)
      ∙ ap (λ (x : Bool). finite R.numerator && (finite R.denominator && x)) (sym (pick-finite b U))

  -- what the code makes of the fraction r is the step
  pub step_is : (r : Ratio) → r ≡ R → (k v w : Float) (f : Bool)
      → k ≡ clamp01 (sub binary64 t (div binary64 r.numerator r.denominator))
      → v ≡ cond (eq r.denominator f0) t k
      → w ≡ cond (eq r.denominator f0) f0 (sub binary64 t (div binary64 r.numerator r.denominator))
      → f ≡ finite r.numerator && (finite r.denominator && finite w)
      → record { t = v; fine = f } ≡ as_step (newton_by c q p t)
  unfolding as_step
  step_is r is k v w f ek ev ew ef = cc (newton-val, newton-fine)

-- the vertices were fine wherever a step from them was, so the step as the Rust has it, vertices and all, was fine where this one was
newton_same : (c : Curve) (p : Point) (t : Float) → (newton c p t).fine ≡ (newton_by c (vertices_of c).val p t).fine
unfolding newton newton_by
newton_same c p t =
    let q = (vertices_of c).val in
    let m = point_at c t in
    let r = ratio_of m.val q p t in
    and_implied _ _
    (λ h.
    let g = sym (through m (point-fine c t) q p t) ∙ both _ _ (and_left m.fine _ h) (and_left r.fine _ (and_right m.fine _ h)) in
    let f = (ratio_fine m.val q p t (and_left _ _ g) (and_right (finite r.val.numerator) _ g)).2 in
    vertices_fine c f.3 f.4)

-- a step that the code made with the curve's own vertices is the Rust's
pub step-newton : (c : Curve) (p : Point) (t : Float) (q : Vertices) (s : Step) → q ≡ (vertices_of c).val → s ≡ as_step (newton_by c q p t) → (s.t ≡ (newton c p t).val) × (s.fine ≡ (newton c p t).fine)
unfolding as_step newton
step-newton c p t q s v e =
    let e' : s ≡ as_step (newton_by c (vertices_of c).val p t) = rw v at e in
    (ap (λ (x : Step). x.t) e', ap (λ (x : Step). x.fine) e' ∙ sym (newton_same c p t))
