-- Export by the cases of its tests. Assumes nothing.
use mathlib.Core.Path.{◌≡◌, sym, ap, ◌∙◌}
use mathlib.Core.Bool.{Bool, true, false, not, ◌&&◌, ◌||◌}
use mathlib.Core.List.{List}
use Prim.Native.Nat.{ℕ, ◌-◌, ◌≤◌, ◌<◌}
use native.Mathlib.Omega.{arith}
use borrow.Author.Tests.{ltb-true, le-leb, lt-leb}
use lib.Dec.{ltb, leb}
use lib.ListN.{length}
use lib.Ieee.{Float}
use Rattle.float.specs.Answer.{Answer, ok, refused}
use Rattle.float.proofs.Answers.{granted, denied}
use Rattle.float.proofs.Truth.{and_left}
use Rattle.form.specs.declared.Form.{Form}
use Rattle.faults.specs.Tests.{curve_at, same}
use Rattle.text.specs.Put.{Put}
use Rattle.lines.specs.Handed.{handed, over_to}
use Rattle.lines.proofs.Handed.{over-short, over-whole}
use Rattle.path.specs.Text.{path_text}
use Rattle.path.specs.Range.{no_room, not_finite, too_large, not_joined, every}
use Rattle.export.specs.Export.{whole_in, joined, meets, export_text, export_of}
use Rattle.path_text.specs.Writable.{Writable}
use Rattle.export.specs.Tests.{passes}
use Rattle.export.specs.declared.Test.{Test}
use Rattle.export.specs.declared.Test.TheVariants.{Finite, Within}
use Rattle.export.proofs.Records.{whole-held}

-- what a test of so many curves answered, where it is known how many they are
told : (P : ℕ → Bool) {h h' : ℕ} {r b : Bool} → h ≡ h' → r ≡ P h → r ≡ b → P h' ≡ b
told P e t u = rw (sym e) (sym t ∙ u)

-- there are curves where they meet
pub some_curves : (ring : Bool) (form : Form) (C : List Float) (k h : ℕ) → meets ring k h (curve_at form C) ≡ true → 0 < k
unfolding meets
some_curves ring form C k h e =
    let f = curve_at form C in
    ltb-true 0 k (and_left (ltb 0 k) (joined h f && (not (ring && leb k h) || same (f (k - 1)).end (f 0).start)) e)

-- a list that is held whole
pub whole : (form : Form) (C : List Float) (k : ℕ) → k ≤ whole_in form (length C) k → every (whole_in form (length C) k) (passes Finite (curve_at form C)) ≡ true
    → every (whole_in form (length C) k) (passes Within (curve_at form C)) ≡ true → Writable form C k
whole form C k h f w =
    let e : whole_in form (length C) k ≡ k = omega arith in
    record { held = rw e at (whole-held form (length C) k); finite = rw e at f; within = rw e at w }

module _ (form : Form) (C : List Float) (k : ℕ) (ring : Bool) (O : List ℕ) where
  abbrev all : Test → Bool
  all t = every (whole_in form (length C) k) (passes t (curve_at form C))

  abbrev meet : Bool
  meet = meets ring k (whole_in form (length C) k) (curve_at form C)

  -- ---- the text

  text_5 : all Finite ≡ false → refused 5 ≡ export_text form C k ring
  unfolding export_text
  text_5 e = denied not_finite _ e

  text_10 : all Finite ≡ true → all Within ≡ false → refused 10 ≡ export_text form C k ring
  unfolding export_text
  text_10 f e = denied too_large _ e ∙ granted not_finite _ f

  module _ (f : all Finite ≡ true) (w : all Within ≡ true) where
    text_12 : meet ≡ false → refused 12 ≡ export_text form C k ring
    unfolding export_text
    text_12 e = denied not_joined _ e ∙ granted too_large _ w ∙ granted not_finite _ f

    text_4 : meet ≡ true → whole_in form (length C) k < k → refused 4 ≡ export_text form C k ring
    unfolding export_text
    text_4 m e = denied no_room _ (lt-leb k (whole_in form (length C) k) e) ∙ granted not_joined _ m ∙ granted too_large _ w ∙ granted not_finite _ f

    text : meet ≡ true → k ≤ whole_in form (length C) k → ok (path_text ring k (curve_at form C)) ≡ export_text form C k ring
    unfolding export_text
    text m g = granted no_room _ (le-leb k (whole_in form (length C) k) g) ∙ granted not_joined _ m ∙ granted too_large _ w ∙ granted not_finite _ f

  -- what is left of the lent bytes
  left : {a : Answer (List ℕ)} → a ≡ export_text form C k ring → over_to O a ≡ export_of form C k ring O
  unfolding export_of
  left e = ap (over_to O) e

-- ---- what each way out leaves, where h curves are held and the tests of them answered f, w and m
module _ (form : Form) (C : List Float) (k : ℕ) (ring : Bool) (O : List ℕ) {h : ℕ} (held : h ≡ whole_in form (length C) k) {f : Bool} (finite : f ≡ every h (passes Finite (curve_at form C))) where
  finite_is : {b : Bool} → f ≡ b → all form C k ring O Finite ≡ b
  finite_is e = told (λ h. every h (passes Finite (curve_at form C))) held finite e

  pub not_finite_is : f ≡ false → handed (refused 5) O ≡ export_of form C k ring O
  not_finite_is e = left form C k ring O (text_5 form C k ring O (finite_is e))

  module _ (F : f ≡ true) {w : Bool} (within : w ≡ every h (passes Within (curve_at form C))) where
    within_is : {b : Bool} → w ≡ b → all form C k ring O Within ≡ b
    within_is e = told (λ h. every h (passes Within (curve_at form C))) held within e

    pub too_large_is : w ≡ false → handed (refused 10) O ≡ export_of form C k ring O
    too_large_is e = left form C k ring O (text_10 form C k ring O (finite_is F) (within_is e))

    module _ (W : w ≡ true) {m : Bool} (meets_is : m ≡ meets ring k h (curve_at form C)) where
      meet_is : {b : Bool} → m ≡ b → meet form C k ring O ≡ b
      meet_is e = told (λ h. meets ring k h (curve_at form C)) held meets_is e

      pub apart : m ≡ false → handed (refused 12) O ≡ export_of form C k ring O
      apart e = left form C k ring O (text_12 form C k ring O (finite_is F) (within_is W) (meet_is e))

      module _ (M : m ≡ true) where
        pub not_held : h < k → handed (refused 4) O ≡ export_of form C k ring O
        not_held e = left form C k ring O (text_4 form C k ring O (finite_is F) (within_is W) (meet_is M) (omega arith))

        module _ (g : k ≤ h) where
          pub listed : (0 < k) × Writable form C k
          listed = (some_curves ring form C k (whole_in form (length C) k) (meet_is M), whole form C k (omega arith) (finite_is F) (within_is W))

          text_is : ok (path_text ring k (curve_at form C)) ≡ export_text form C k ring
          text_is = text form C k ring O (finite_is F) (within_is W) (meet_is M) (omega arith)

          pub too_short : {n : ℕ} → n ≡ length (path_text ring k (curve_at form C)) → length O < n → handed (refused 4) O ≡ export_of form C k ring O
          too_short e l = over-short (path_text ring k (curve_at form C)) O (omega (arith, e)) ∙ left form C k ring O text_is

          pub put_whole : {O' : List ℕ} {n e : ℕ} → n ≡ length (path_text ring k (curve_at form C)) → n ≤ length O → Put O 0 (path_text ring k (curve_at form C)) O' e → handed (ok e) O' ≡ export_of form C k ring O
          put_whole z l p = over-whole (path_text ring k (curve_at form C)) O (omega (arith, z)) (p.end, p.out) ∙ left form C k ring O text_is
