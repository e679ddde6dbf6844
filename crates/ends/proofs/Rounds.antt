-- The parameters of a fit: all in 0..1, the first a zero, the last 1. A round of `reparam` keeps this, where the
-- curve starts at the first mark and ends at the last.
use mathlib.Core.Path.{◌≡◌, sym, ap, ◌∙◌, subst}
use mathlib.Core.List.{List}
use Prim.Native.Nat.{ℕ, ◌-◌, ◌<◌}
use native.Mathlib.Omega.{arith}
use lib.ListN.{length, get_or}
use lib.Ieee.{Float, nan}
use Rattle.float.proofs.Answers.{Fine}
use Rattle.float.proofs.Folds.{each-length, each_all}
use Rattle.newton.specs.Newton.{newton}
use Rattle.marks.specs.Marks.{mark_at}
use Rattle.stages.specs.Newton.{step_at, reparam}
use Rattle.stages.proofs.InPlace.{each-get}
use Rattle.plane.specs.declared.Curve.{Curve}
use Rattle.numbers.specs.Words.{Zero, InUnit}
use Rattle.ends.specs.Ends.{Params, EndsAt}
use Rattle.ends.proofs.Newton.{newton_start, newton_end, newton-unit}

-- ---- a round
module _ (ms : List Float) (c : Curve) (ts : List Float) (ends : EndsAt ms (length ts) c) (fine : Fine (reparam ms c ts)) (ps : Params ts) where
  step-fine : (k : ℕ) → k < length ts → Fine (newton c (mark_at ms k) (get_or ts k nan))
  unfolding reparam step_at
  step-fine k l = each_all (step_at ms c ts) (length ts) fine k l

  step_is : (k : ℕ) → k < length ts → get_or (reparam ms c ts).val k nan ≡ (newton c (mark_at ms k) (get_or ts k nan)).val
  unfolding reparam step_at
  step_is k l = each-get (step_at ms c ts) (length ts) k l

  same_length : length (reparam ms c ts).val ≡ length ts
  unfolding reparam
  same_length = each-length (step_at ms c ts) (length ts)

  pub reparam_keeps : Params (reparam ms c ts).val
  reparam_keeps = record {
    some = subst (λ (n : ℕ). 0 < n) (sym same_length) ps.some;
    unit = λ k l.
        let l' : k < length ts = subst (λ (n : ℕ). k < n) same_length l in
        subst InUnit (sym (step_is k l')) (newton-unit c (mark_at ms k) (get_or ts k nan) (ps.unit k l') (step-fine k l'));
    first = subst Zero (sym (step_is 0 ps.some)) (newton_start c (mark_at ms 0) (get_or ts 0 nan) ends.fits_first ends.first ps.first (step-fine 0 ps.some));
    last =
        let z = length ts - 1 in
        let some : 0 < length ts = ps.some in
        let l : z < length ts = omega arith in
        ap (λ (n : ℕ). get_or (reparam ms c ts).val (n - 1) nan) same_length ∙ step_is z l ∙ newton_end c (mark_at ms z) (get_or ts z nan) ends.fits_last ends.last ps.last (step-fine z l);
  }

pub reparam-length : (ms : List Float) (c : Curve) (ts : List Float) → length (reparam ms c ts).val ≡ length ts
unfolding reparam
reparam-length ms c ts = each-length (step_at ms c ts) (length ts)
