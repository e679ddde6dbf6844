-- No kink where two blocks meet, nor where a ring comes back; and the chords where there is no direction. Proved of the definition. Assumes nothing.
use Prim.Native.Nat.{ℕ, ◌+◌, ◌<◌}
use native.Mathlib.Omega.{arith}
use mathlib.Core.Path.{◌≡◌, refl, sym, ap, ◌∙◌}
use mathlib.Core.Bool.{Bool, true, false, ◌&&◌}
use mathlib.Core.List.{List}
use Rattle.std.proofs.Common.{Some, None}
use lib.Ieee.{Float}
use borrow.Author.Tests.{lt-ltb, le-ltb}
use Rattle.float.specs.Calc.{Calc, give}
use Rattle.float.specs.Answer.{ok, unless, outcome}
use Rattle.float.proofs.Truth.{and_left, and_right}
use Rattle.float.proofs.Answers.{Fine, outcome_ok}
use Rattle.plane.specs.declared.Point.{Point}
use Rattle.tangents.specs.NoKink.{Smooth, Folded, NoKink, NoKinkAtSeam}
use Rattle.tangents.specs.declared.Ways.{Ways}
use Rattle.joints.specs.declared.Joint.{Joint}
use Rattle.tangents.specs.declared.Cutting.{Cutting}
use Rattle.tangents.specs.declared.Cutting.TheVariants.{Ring}
use Rattle.tangents.proofs.Blocks.{start_met, start_seam, end_met, end_seam}
use Rattle.joints.proofs.Joints.{goes_on}
use Rattle.joints.specs.Joints.{joint_at, seam_of, through, opposite, end_by, start_by, left_end, right_start}
use Rattle.tangents.specs.Ways.{over, meets, start_of, end_of, ways_of}

fine_by : {A : Type 0} (b : Bool) (v x : A) → unless 6 b (ok v) ≡ ok x → (b ≡ true) × (v ≡ x)
fine_by true v x h = (refl, cc)
fine_by false v x h = (cc, cc)

-- what a run came to is its value, and it was fine
came_to : {A : Type 0} (m : Calc A) (x : A) → outcome m ≡ ok x → Fine m × (m.val ≡ x)
unfolding outcome
came_to m x h = fine_by m.fine m.val x h

-- a block's tangents are what each came to
module _ (k : Cutting) (ms : List Float) (n from to : ℕ) (w : Ways) (h : outcome (ways_of k ms n from to) ≡ ok w) where
  started : outcome (start_of k ms n from) ≡ ok w.start
  unfolding ways_of
  started =
      let c = came_to (ways_of k ms n from to) w h in
      outcome_ok (start_of k ms n from) (and_left (start_of k ms n from).fine ((end_of k ms n to).fine && true) c.0) ∙ ap (λ (v : Ways). ok v.start) c.1

  ended : outcome (end_of k ms n to) ≡ ok w.end
  unfolding ways_of
  ended =
      let c = came_to (ways_of k ms n from to) w h in
      outcome_ok (end_of k ms n to) (and_left (end_of k ms n to).fine true (and_right (start_of k ms n from).fine ((end_of k ms n to).fine && true) c.0)) ∙ ap (λ (v : Ways). ok v.end) c.1

-- what ends and what starts at a joint
module _ (j : Joint) (left right : Ways) (l : outcome (left_end j) ≡ ok left.end) (r : outcome (right_start j) ≡ ok right.start) where
  smooth : Smooth j left right
  unfolding left_end right_start end_by start_by
  smooth t h =
      let e : ok t ≡ ok left.end = sym (outcome_ok (give t) refl) ∙ goes_on (through j) (end_by j) (Some t) (sym h) ∙ l in
      let same : t ≡ left.end = cc in
      ap (λ (u : Point). outcome (opposite u)) (sym same) ∙ goes_on (through j) (start_by j) (Some t) (sym h) ∙ r

  folded : Folded j left right
  unfolding left_end right_start end_by start_by
  folded h = (goes_on (through j) (end_by j) None (sym h) ∙ l, goes_on (through j) (start_by j) None (sym h) ∙ r)

-- the mark where two blocks meet
meets_at : (k : Cutting) (a b : ℕ) → over k ≡ 1 → a < b → meets k a b ≡ true
unfolding meets
meets_at k a b o h = rw (o, lt-ltb a b h) refl

pub no_kink : NoKink
no_kink k ms n size from to left right o s h l r =
    let j = from + size in
    let e : end_of k ms n (from + (size + over k)) ≡ left_end (joint_at ms j) = end_met k ms n (from + (size + over k)) (meets_at k _ n o h) ∙ ap (λ (i : ℕ). left_end (joint_at ms i)) (omega (arith, o)) in
    let f : start_of k ms n j ≡ right_start (joint_at ms j) = start_met k ms n j (meets_at k 0 j o (omega arith)) in
    let a = ap outcome (sym e) ∙ ended k ms n from (from + (size + over k)) left l in
    let b = ap outcome (sym f) ∙ started k ms n j to right r in
    (smooth (joint_at ms j) left right a b, folded (joint_at ms j) left right a b)

pub no_kink_at_seam : NoKinkAtSeam
unfolding meets
no_kink_at_seam ms n from to last first l r =
    let e : end_of Ring ms n n ≡ left_end (seam_of ms n) = end_seam Ring ms n n (le-ltb n n (omega arith)) refl in
    let f : start_of Ring ms n 0 ≡ right_start (seam_of ms n) = start_seam Ring ms n 0 refl refl in
    let a = ap outcome (sym e) ∙ ended Ring ms n from n last l in
    let b = ap outcome (sym f) ∙ started Ring ms n 0 to first r in
    (smooth (seam_of ms n) last first a b, folded (seam_of ms n) last first a b)
