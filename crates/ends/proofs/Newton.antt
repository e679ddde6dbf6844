-- The Newton step at the ends: it keeps a zero a zero and 1 at 1, for a mark with the bits of the curve's end, where the run is fine.
use mathlib.Core.Path.{◌≡◌, refl, sym, ap, ◌∙◌, subst}
use mathlib.Core.Bool.{Bool, true, false, ◌&&◌, cond}
use lib.Ieee.{Float, binary64, sub, div, lt, eq, of_bits}
use Rattle.float.specs.Number.{finite, f0, clamp01}
use Rattle.float.specs.Calc.{Calc, give, ◌>>=◌, ◌-!◌, ◌/!◌}
use Rattle.cubic.specs.Basis.{point_at}
use Rattle.newton.specs.Newton.{vertices_of, ratio_of, newton_by, newton}
use Rattle.newton.specs.declared.Vertices.{Vertices}
use Rattle.plane.specs.declared.Point.{Point}
use Rattle.plane.specs.declared.Curve.{Curve}
use Rattle.newton.specs.declared.Ratio.{Ratio}
use Rattle.float.proofs.Strict.{Fin}
use Rattle.float.proofs.Answers.{Fine}
use Rattle.plane.proofs.Fine.{Good, dot-fine, dot_bad, minus-fine}
use Rattle.float.proofs.Truth.{and_left, and_right, and-false, is_so}
use Rattle.numbers.specs.Words.{one, Zero, InUnit}
use Rattle.ends.specs.Ends.{FitsP}
use Rattle.numbers.proofs.Zeros.{f0_is, sub-zeros, div-zero_l, one_less-zero}
use Rattle.numbers.proofs.Order.{clamp_in}
use Rattle.ends.proofs.Basis.{AlikeP, point_start, point_end, less-mark, dot-zero}

pub clamp-zero : (x : Float) → Zero x → clamp01 x ≡ x
unfolding clamp01 lt of_bits
clamp-zero x (true, p) = ap clamp01 p ∙ sym p
clamp-zero x (false, p) = ap clamp01 p ∙ sym p

pub clamp_one : clamp01 one ≡ one
unfolding clamp01 lt of_bits
clamp_one = refl

-- the step, once its test is known
abbrev pub step_by : Bool → Float → Ratio → Calc Float
step_by b t r = cond b (give t) (do give (clamp01 (← t -! (← r.numerator /! r.denominator))))

step_start : (b : Bool) (t : Float) (r : Ratio) → eq r.denominator f0 ≡ b → Zero r.numerator → Fin r.denominator → Zero t → Zero (step_by b t r).val
step_start true t r e n d z = z
step_start false t r e n d z =
    let q = sub-zeros binary64 t _ z (div-zero_l binary64 r.numerator r.denominator n d (ap (eq r.denominator) (sym f0_is) ∙ e)) in
    subst Zero (sym (clamp-zero _ q)) q

step_end : (b : Bool) (t : Float) (r : Ratio) → eq r.denominator f0 ≡ b → Zero r.numerator → Fin r.denominator → t ≡ one → (step_by b t r).val ≡ one
step_end true t r e n d z = z
step_end false t r e n d z =
    let q = div-zero_l binary64 r.numerator r.denominator n d (ap (eq r.denominator) (sym f0_is) ∙ e) in
    ap clamp01 (ap (λ (v : Float). sub binary64 v (div binary64 r.numerator r.denominator)) z ∙ one_less-zero binary64 _ q) ∙ clamp_one

module _ (c : Curve) (q : Vertices) (p : Point) (t : Float) where
  abbrev qt : Point
  qt = (point_at c t).val

  abbrev ratio : Calc Ratio
  ratio = ratio_of qt q p t

  -- a number of the fraction is finite where the run is fine
  ratio_good : Fine ratio → Fin ratio.val.numerator × Fin ratio.val.denominator
  unfolding ratio_of
  ratio_good h = (
    is_so ratio.fine (finite ratio.val.numerator) h (λ e. simp (dot_bad _ _ e, and-false)),
    is_so ratio.fine (finite ratio.val.denominator) h (λ e. simp (e, and-false)),
  )

  -- the numerator is a zero where the curve's point is alike the mark
  num-zero : (Good qt → AlikeP qt p) → Fin ratio.val.numerator → Zero ratio.val.numerator
  unfolding ratio_of
  num-zero a h =
      let d = dot-fine _ _ h in
      let o = minus-fine _ _ d.1 in
      dot-zero _ _ (less-mark p _ o.2 (a o.1)) d.2

  by_fine : Fine (newton_by c q p t) → Fine ratio
  unfolding newton_by
  by_fine h = and_left ratio.fine _ (and_right (point_at c t).fine _ h)

  pub by_start : FitsP p → p ≡ c.start → Zero t → Fine (newton_by c q p t) → Zero (newton_by c q p t).val
  unfolding newton_by
  by_start k e z h =
      let g = ratio_good (by_fine h) in
      let n = num-zero (λ o. subst (λ (v : Point). AlikeP qt v) (sym e) (point_start c t (subst FitsP e k) z o)) g.0 in
      step_start (eq ratio.val.denominator f0) t ratio.val refl n g.1 z

  pub by_end : FitsP p → p ≡ c.end → t ≡ one → Fine (newton_by c q p t) → (newton_by c q p t).val ≡ one
  unfolding newton_by
  by_end k e z h =
      let g = ratio_good (by_fine h) in
      let n = num-zero (λ o. subst (λ (v : Point). AlikeP qt v) (sym e) (point_end c t (subst FitsP e k) z o)) g.0 in
      step_end (eq ratio.val.denominator f0) t ratio.val refl n g.1 z

-- ---- one step keeps 0..1
step-unit : (b : Bool) (t : Float) (r : Ratio) → InUnit t → Fine (step_by b t r) → InUnit (step_by b t r).val
step-unit true t r u h = u
step-unit false t r u h = let q = div binary64 r.numerator r.denominator in clamp_in (sub binary64 t q) (and_left (finite (sub binary64 t q)) true (and_right (finite q) (finite (sub binary64 t q) && true) h))

by_unit : (c : Curve) (q : Vertices) (p : Point) (t : Float) → InUnit t → Fine (newton_by c q p t) → InUnit (newton_by c q p t).val
unfolding newton_by
by_unit c q p t u h = let r = ratio_of (point_at c t).val q p t in step-unit (eq r.val.denominator f0) t r.val u (and_right r.fine _ (and_right (point_at c t).fine _ h))

-- ---- the step with its vertices
module _ (c : Curve) (p : Point) (t : Float) where
  abbrev by : Calc Float
  by = newton_by c (vertices_of c).val p t

  newton-fine : Fine (newton c p t) → Fine by
  unfolding newton
  newton-fine h = and_right (vertices_of c).fine by.fine h

  pub newton_start : FitsP p → p ≡ c.start → Zero t → Fine (newton c p t) → Zero (newton c p t).val
  unfolding newton
  newton_start k e z h = by_start c (vertices_of c).val p t k e z (newton-fine h)

  pub newton_end : FitsP p → p ≡ c.end → t ≡ one → Fine (newton c p t) → (newton c p t).val ≡ one
  unfolding newton
  newton_end k e z h = by_end c (vertices_of c).val p t k e z (newton-fine h)

  pub newton-unit : InUnit t → Fine (newton c p t) → InUnit (newton c p t).val
  unfolding newton
  newton-unit u h = by_unit c (vertices_of c).val p t u (newton-fine h)
