-- The two forms of a list: where a curve's numbers lie, and what is kept beside them. Assumes nothing.
use Prim.Native.Nat.{ℕ, ◌+◌, ◌-◌, ◌*◌, ◌≤◌, ◌<◌}
use native.Mathlib.Omega.{arith}
use mathlib.Core.Path.{◌≡◌, refl, ap, ◌∙◌}
use mathlib.Core.Bool.{true}
use mathlib.Core.List.{List}
use lib.ListN.{length, take, drop, length-drop}
use lib.Seq.{take_all}
use lib.Ieee.{Float}
use Rattle.form.specs.Form.{curve_numbers, record_numbers, width, worsts_for}
use Rattle.form.specs.declared.Form.{Form}
use Rattle.form.specs.declared.Form.TheVariants.{Eight, Nine}
use Rattle.stages.specs.declared.worst.Worst.{Worst}
use Rattle.faults.specs.Tests.{kept}

-- a curve's own numbers stand in front
pub wide_enough : (form : Form) → curve_numbers ≤ width form
wide_enough Eight = omega arith
wide_enough Nine = omega arith

-- what stands behind the first a numbers, as a part
pub behind : (x a : ℕ) (cs : List Float) → x ≡ a → take (length cs - x) (drop x cs) ≡ drop a cs
behind x a cs e = take_all (length cs - x) (drop x cs) (simp length-drop (omega arith)) ∙ rw e

-- one of k curves lies within their numbers, and its worst mark within theirs
pub curve_within_is : (form : Form) (j k : ℕ) → j < k → width form * j + width form ≤ width form * k
curve_within_is Eight j k l = omega arith
curve_within_is Nine j k l = omega arith

pub worst_within : (form : Form) (j k : ℕ) → j < k → worsts_for form (j + 1) ≤ worsts_for form k
worst_within Eight j k l = omega arith
worst_within Nine j k l = omega arith

module _ (form : Form) (cs : List Float) (ws : List ℕ) (j : ℕ) (w : Worst) where
  pub kept-eight : form ≡ Eight → true ≡ kept form cs ws j w
  unfolding kept
  kept-eight e = rw e refl

  pub kept_nine : form ≡ Nine → kept Nine cs ws j w ≡ kept form cs ws j w
  kept_nine e = rw e refl

pub nine_room : (form : Form) (j c w : ℕ) → form ≡ Nine → width form * j + width form ≤ c → worsts_for form (j + 1) ≤ w → (record_numbers * j + record_numbers ≤ c) × (j < w)
nine_room Eight j c w e h l = let z : width Eight ≡ width Nine = ap width e in absurd (omega arith)
nine_room Nine j c w e h l = (h, omega arith)
