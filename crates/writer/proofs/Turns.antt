-- Turns of the writer's loops, and records that are put one after another. Assumes nothing.
use mathlib.Core.Path.{◌≡◌, refl, sym, ◌∙◌}
use mathlib.Core.Bool.{true, false, ◌&&◌}
use mathlib.Core.List.{List, [], ◌∷◌, ◌++◌, append_assoc, append-nil}
use Prim.Native.Nat.{ℕ, suc, ◌+◌, ◌-◌, ◌*◌, ◌<◌, ◌≤◌, ◌^◌}
use native.Mathlib.Numerals.{add-one}
use native.Mathlib.Omega.{arith}
use borrow.Author.Tests.{ltb-true, lt-ltb}
use lib.ListN.{length, take, drop, get_or, length-append, length-take, length-drop}
use lib.Seq.{drop-cons, take-add, take-suc, take_all, take-length, length-take-le, sets}
use Rattle.float.proofs.Truth.{true-false}
use Rattle.form.specs.declared.Form.{Form}
use Rattle.form.specs.declared.Form.TheVariants.{Eight, Nine}
use Rattle.form.specs.Form.{width, worsts_for}
use Rattle.house.specs.declared.sizes.Field.{Field}
use Rattle.house.specs.Limits.{worst_marks, curve_kind, curve_bytes}
use Rattle.house.specs.Bytes.{le, row_bytes, les, fits, all_fit}
use Rattle.house.specs.File.{rec, framed, flat, body_of, curve_records, fewer}
use Rattle.writer.specs.Writer.{marks_fit}
use Rattle.house.proofs.Forms.{worsts-each}
use Rattle.house.proofs.Numbers.{fit_cons, fit_append, fit_at, length-le}
use Rattle.house.proofs.Rows.{length-les}
use Rattle.grammar.proofs.Curves.{length-flat, curves_snoc}
use Rattle.house.proofs.Turns.{put_both}
use Rattle.text.proofs.Stores.{sets_append}

-- ---- mark numbers that fit: one more, and one that does not

module _ (f : ℕ) (P : List ℕ) (i : ℕ) (h : i < length P) where
  pub fits_more : all_fit f (take i P) ≡ true → fits f (get_or P i 0) ≡ true → all_fit f (take (i + 1) P) ≡ true
  unfolding all_fit
  fits_more all g =
      let e : take (i + 1) P ≡ take i P ++ (get_or P i 0 ∷ []) = rw (add-one i) (take-suc P i 0 (omega arith)) in
      rw e (fit_append f (take i P) (get_or P i 0 ∷ []) all (fit_cons f (get_or P i 0) [] (ltb-true _ _ g) refl))

  pub fits_stop : fits f (get_or P i 0) ≡ false → all_fit f P ≡ true → ⊥
  fits_stop g all = true-false _ (lt-ltb (get_or P i 0) (256 ^ f) (fit_at f P i all h)) g

-- without curves there is nothing to hold
pub holds_none : (form : Form) (n k : ℕ) (P W : List ℕ) → k ≡ 0 → true ≡ fewer k n && marks_fit form n k P W
unfolding all_fit
holds_none Eight n k P W e = rw e
holds_none Nine n k P W e = rw e

-- ---- curves

-- the mark numbers of one: its first mark alone, or its worst mark too
pub beside_one : (f : ℕ) (l : List ℕ) (at : ℕ) (form : Form) (p i : ℕ) (W : List ℕ) → form ≡ Eight → sets l at (le f p) ≡ sets l at (le f p ++ row_bytes f (take (worst_marks form) (drop (worsts_for form i) W)))
unfolding row_bytes
beside_one f l at form p i W e = rw (e, append-nil)

pub beside_two : (f : ℕ) (l : List ℕ) (at : ℕ) (form : Form) (p i : ℕ) (W : List ℕ) → form ≡ Nine → i < length W
    → sets (sets l at (le f p)) (at + f) (le f (get_or W i 0)) ≡ sets l at (le f p ++ row_bytes f (take (worst_marks form) (drop (worsts_for form i) W)))
unfolding row_bytes
beside_two f l at form p i W e h = let d : drop i W ≡ get_or W i 0 ∷ drop (suc i) W = drop-cons W i 0 h in put_both l at f f p (get_or W i 0) ∙ rw (e, d, append-nil)

module _ (form : Form) (field : Field) where
  -- one record more, put behind the others
  pub curves-put : (l P W C : List ℕ) (at i : ℕ) → i < length P → worsts_for form (i + 1) ≤ length W → width form * (i + 1) ≤ length C
      → sets (sets l at (flat (curve_records form field (take i P) (take (worsts_for form i) W) (take (width form * i) C)))) (at + curve_bytes form field * i)
      (framed (rec (curve_kind form field) (body_of form field (get_or P i 0) (drop (worsts_for form i) W) (drop (width form * i) C))))
      ≡ sets l at (flat (curve_records form field (take (i + 1) P) (take (worsts_for form (i + 1)) W) (take (width form * (i + 1)) C)))
  curves-put l P W C at i h hw hc =
      let rs : List ℕ = flat (curve_records form field (take i P) (take (worsts_for form i) W) (take (width form * i) C)) in
      let p : ℕ = get_or P i 0 in
      let w : List ℕ = take (worst_marks form) (drop (worsts_for form i) W) in
      let c : List ℕ = take (width form) (drop (width form * i) C) in
      let ew : worsts_for form i + worst_marks form ≡ worsts_for form (i + 1) = omega (arith, worsts-each form i, worsts-each form (i + 1)) in
      let ec : width form * i + width form ≡ width form * (i + 1) = omega arith in
      let lp : length (take i P) ≡ i = length-take-le i P (omega arith) in
      let lw : length (take (worsts_for form i) W) ≡ worst_marks form * length (take i P) = rw lp (length-take-le (worsts_for form i) W (omega arith) ∙ worsts-each form i) in
      let lc : length (take (width form * i) C) ≡ width form * length (take i P) = rw lp (length-take-le (width form * i) C (omega arith)) in
      let lr : length rs ≡ curve_bytes form field * i = length-flat form field (take i P) (take (worsts_for form i) W) (take (width form * i) C) lw lc ∙ rw lp in
      let tp : take (i + 1) P ≡ take i P ++ (p ∷ []) = rw (add-one i, take-suc P i 0) in
      let tw : take (worsts_for form (i + 1)) W ≡ take (worsts_for form i) W ++ w = rw (← ew, take-add) in
      let tc : take (width form * (i + 1)) C ≡ take (width form * i) C ++ c = rw (← ec, take-add) in
      let sw : take (worst_marks form) w ≡ w = take_all (worst_marks form) w (simp length-take (omega arith)) in
      let sc : take (width form) c ≡ c = take_all (width form) c (simp length-take (omega arith)) in
      let fr : List ℕ = framed (rec (curve_kind form field) (body_of form field p (drop (worsts_for form i) W) (drop (width form * i) C))) in
      let all : flat (curve_records form field (take (i + 1) P) (take (worsts_for form (i + 1)) W) (take (width form * (i + 1)) C)) ≡ rs ++ fr =
      rw (tp, tw, tc) (curves_snoc form field (take i P) (take (worsts_for form i) W) (take (width form * i) C) w c p lw lc ∙ rw (sw, sc)) in
      let s = sets_append rs fr l at in
      sym (rw all (s ∙ rw lr))

-- n numbers of all from i on
pub some_of : (n : ℕ) (C : List ℕ) (i : ℕ) → take n (take (length C - i) (drop i C)) ≡ take n (drop i C)
some_of n C i = let t : take (length C - i) (drop i C) ≡ drop i C = take_all (length C - i) (drop i C) (simp length-drop (omega arith)) in rw t

-- ---- kinds 1 and 2, one behind the other

pub marks-put : (l : List ℕ) (t : ℕ) (M : List ℕ)
    → sets (sets (sets (sets l 0 (le 4 10 ++ le 2 1)) 6 (le 8 t)) 14 (le 4 (2 + 8 * length M) ++ le 2 2)) 20 (les (take (length M) M)) ≡ sets l 0 (flat (rec 1 (le 8 t) ∷ (rec 2 (les M) ∷ [])))
unfolding flat
marks-put l t M =
    let h1 : List ℕ = le 4 10 ++ le 2 1 in
    let h2 : List ℕ = le 4 (2 + 8 * length M) ++ le 2 2 in
    let z1 : length (le 8 t) ≡ 8 = length-le 8 t in
    let z2 : length (les M) ≡ 8 * length M = length-les M in
    let ta : take (length M) M ≡ M = take-length M in
    let spread : framed (rec 1 (le 8 t)) ++ (framed (rec 2 (les M)) ++ []) ≡ ((h1 ++ le 8 t) ++ h2) ++ les M = simp (append_assoc, append-nil, z1, z2) in
    let s1 = sets_append h1 (le 8 t) l 0 in
    let s2 = sets_append (h1 ++ le 8 t) h2 l 0 in
    let s3 = sets_append ((h1 ++ le 8 t) ++ h2) (les M) l 0 in
    let p1 : 0 + length h1 ≡ 6 = simp (length-append, length-le) in
    let p2 : 0 + length (h1 ++ le 8 t) ≡ 14 = simp (length-append, length-le) in
    let p3 : 0 + length ((h1 ++ le 8 t) ++ h2) ≡ 20 = simp (length-append, length-le) in
    rw ta (sym (rw spread (s3 ∙ rw (p3, s2, p2, s1, p1))))
