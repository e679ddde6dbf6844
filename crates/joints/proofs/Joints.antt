-- A tangent turned about, and what goes on with the direction at a joint, by what the code's calls answer. Assumes nothing.
use mathlib.Core.Path.{◌≡◌, refl, sym, ap, ◌∙◌}
use mathlib.Core.Bool.{true, false}
use Prim.Native.Nat.{ℕ}
use lib.Ieee.{of_bits, neg}
use Rattle.std.proofs.Common.{Option}
use Rattle.float.specs.Number.{finite, f1}
use Rattle.float.specs.Calc.{Calc, ◌>>=◌}
use Rattle.float.specs.Answer.{Answer, ok, refused, outcome}
use Rattle.float.specs.Answer.{◌>>=◌ as chain}
use Rattle.float.proofs.Strict.{Fin}
use Rattle.float.proofs.Answers.{outcome_ok, outcome_no, outcome-then}
use Rattle.plane.specs.Plane.{times}
use Rattle.plane.specs.Range.{point_finite}
use Rattle.plane.specs.declared.Point.{Point}
use Rattle.plane.proofs.Fine.{times_same}
use Rattle.joints.specs.declared.Joint.{Joint}
use Rattle.joints.specs.Joints.{opposite, through}

minus_one : Fin (neg f1)
unfolding finite neg of_bits
minus_one = refl

module _ (t u : Point) (is : u ≡ (times t (neg f1)).val) where
  whole : (opposite t).fine ≡ point_finite u
  whole = times_same t (neg f1) minus_one ∙ ap point_finite (sym is)

  pub about : point_finite u ≡ true → ok u ≡ outcome (opposite t)
  about g = ap ok is ∙ sym (outcome_ok (opposite t) (whole ∙ g))

  pub too_far : point_finite u ≡ false → refused 6 ≡ outcome (opposite t)
  too_far g = sym (outcome_no (opposite t) (whole ∙ g))

-- a run that goes on with what another came to: refused where that is, else what goes on with its value
module _ {A B : Type 0} (m : Calc A) (f : A → Calc B) where
  pub lost : (q : ℕ) → refused q ≡ outcome m → refused q ≡ outcome (◌>>=◌ m f)
  lost q e = sym (outcome-then m f ∙ ap (λ x. chain x (λ a. outcome (f a))) (sym e))

  pub goes_on : (t : A) → ok t ≡ outcome m → outcome (f t) ≡ outcome (◌>>=◌ m f)
  goes_on t e = sym (outcome-then m f ∙ ap (λ x. chain x (λ a. outcome (f a))) (sym e))

-- ---- where two blocks meet: what goes on with the direction there; d is the direction that was answered, e is which it is
pub by_direction : (j : Joint) (f : Option Point → Calc Point) {d : Option Point} {w : Answer Point} (e : Option Point) → ok d ≡ outcome (through j) → d ≡ e → w ≡ outcome (f e) → w ≡ outcome (◌>>=◌ (through j) f)
by_direction j f e h k g = g ∙ goes_on (through j) f e (ap ok (sym k) ∙ h)
