-- The curves that come back, as a list of eight numbers each: it passes export's tests, and has the same text. Assumes nothing.
use Prim.Native.Nat.{ℕ, zero, suc, ◌+◌, ◌-◌, ◌*◌, ◌<◌, ◌≤◌}
use mathlib.Core.Path.{◌≡◌, refl, sym, ap, ◌∙◌}
use mathlib.Core.Bool.{Bool, true, false, not, ◌&&◌, ◌||◌}
use mathlib.Core.List.{List, ◌++◌}
use native.Mathlib.Omega.{arith}
use borrow.Author.Tests.{lt-ltb, le-leb, eq-eqb}
use lib.ListN.{length, drop}
use lib.Seq.{drop-drop}
use lib.Ieee.{Float, binary64, to_bits}
use Rattle.float.specs.Answer.{ok}
use Rattle.float.proofs.Truth.{both}
use Rattle.plane.specs.declared.Point.{Point}
use Rattle.plane.specs.declared.Curve.{Curve}
use Rattle.marks.specs.Marks.{mark_at}
use Rattle.form.specs.declared.Form.TheVariants.{Eight}
use Rattle.faults.specs.Tests.{curve_of, curve_at, curve_finite, same}
use Rattle.path.specs.Curves.{eights}
use Rattle.path.specs.Text.{point_text, curve_text, curves_text, path_text}
use Rattle.path.specs.Range.{curve_within, every}
use Rattle.export.specs.Export.{whole_in, joined, meets, export_text}
use Rattle.path_trips.specs.Trips.{near_point, near_curve, row}
use Rattle.path_trips.proofs.Paths.{next}
use Rattle.path_trips.proofs.Near.{curve-finite, curve_within_is, point_alike, curve_alike}
use Rattle.path_trips.proofs.Read.{Whole}
use Rattle.path_trips.proofs.Exported.{every_all}

-- ---- eight numbers of each curve

pub length-row : {A : Type 0} (n : ℕ) (f : ℕ → A) → length (row n f) ≡ n
unfolding row
length-row zero f = refl
length-row (suc n) f = ap suc (length-row n (next f))

-- curve i is the one that was stored
pub stored : (n : ℕ) (g : ℕ → Curve) (r : List Float) (i : ℕ) → i < n → curve_at Eight (eights (row n g) ++ r) i ≡ g i
unfolding curve_at curve_of mark_at eights row
stored zero g r i h = absurd (omega arith)
stored (suc n) g r zero h = refl
stored (suc n) g r (suc i) h =
    let e : 8 * suc i ≡ 8 + 8 * i = omega arith in
    let s : List Float = eights (row (suc n) g) ++ r in
    ap (λ (m : ℕ). curve_of (drop m s)) e ∙ ap curve_of (sym (drop-drop (8 * i) 8 s)) ∙ stored n (next g) r i (omega arith)

-- ---- the tests

same_self : (p : Point) → same p p ≡ true
unfolding same
same_self p = both _ _ (eq-eqb (to_bits binary64 p.x) _ refl) (eq-eqb (to_bits binary64 p.y) _ refl)

pub same_is : (p q : Point) → p ≡ q → same p q ≡ true
same_is p q e = rw e (same_self q)

either : (a b c : Bool) → (a ≡ true → c ≡ true) → not (a && b) || c ≡ true
either true true c h = h refl
either true false c h = refl
either false b c h = refl

-- export accepts
accepts : (C : List Float) (k : ℕ) (ring : Bool) → 8 * k ≤ length C → 0 < k
    → ((i : ℕ) → i < k → curve_finite (curve_at Eight C i) ≡ true)
    → ((i : ℕ) → i < k → curve_within (curve_at Eight C i) ≡ true)
    → ((i : ℕ) → suc i < k → same (curve_at Eight C i).end (curve_at Eight C (suc i)).start ≡ true)
    → (ring ≡ true → same (curve_at Eight C (k - 1)).end (curve_at Eight C 0).start ≡ true)
    → export_text Eight C k ring ≡ ok (path_text ring k (curve_at Eight C))
unfolding export_text meets joined
accepts C k ring l some fin within joints round =
    let f = curve_at Eight C in
    let h : whole_in Eight (length C) k ≡ k = omega arith in
    let a : every k (λ i. curve_finite (f i)) ≡ true = every_all k _ fin in
    let b : every k (λ i. curve_within (f i)) ≡ true = every_all k _ within in
    let c : every (k - 1) (λ i. same (f i).end (f (suc i)).start) ≡ true = every_all (k - 1) _ (λ i m. joints i (omega arith)) in
    rw (h, a, b, lt-ltb 0 k some, c, le-leb k k (omega arith), either ring true (same (f (k - 1)).end (f 0).start) round)

-- ---- the text

alike_curves : (n : ℕ) (f g : ℕ → Curve) → ((i : ℕ) → i < n → curve_text (f i) ≡ curve_text (g i)) → curves_text n f ≡ curves_text n g
unfolding curves_text
alike_curves zero f g h = refl
alike_curves (suc n) f g h = let r = alike_curves n f g (λ i l. h i (omega arith)) in rw (r, h n (omega arith))

-- ---- the list that comes back

module _ (ring : Bool) (k : ℕ) (f : ℕ → Curve) (w : Whole ring k f) (C : List Float) (l : 8 * k ≤ length C) (is : (i : ℕ) → i < k → curve_at Eight C i ≡ near_curve (f i)) where
  start_is : (i : ℕ) → i < k → (curve_at Eight C i).start ≡ near_point (f i).start
  unfolding near_curve
  start_is i h = ap (λ (c : Curve). c.start) (is i h)

  end_is : (i : ℕ) → i < k → (curve_at Eight C i).end ≡ near_point (f i).end
  unfolding near_curve
  end_is i h = ap (λ (c : Curve). c.end) (is i h)

  pub joints_meet : (i : ℕ) → suc i < k → same (curve_at Eight C i).end (curve_at Eight C (suc i)).start ≡ true
  joints_meet i h = same_is _ _ (end_is i (omega arith) ∙ ap near_point (w.joints i h) ∙ sym (start_is (suc i) h))

  pub ring_meets : ring ≡ true → same (curve_at Eight C (k - 1)).end (curve_at Eight C 0).start ≡ true
  ring_meets h = let some = w.some in same_is _ _ (end_is (k - 1) (omega arith) ∙ ap near_point (w.round h) ∙ sym (start_is 0 some))

  text_alike : path_text ring k (curve_at Eight C) ≡ path_text ring k f
  unfolding path_text
  text_alike =
      let some = w.some in
      let s : point_text (curve_at Eight C 0).start ≡ point_text (f 0).start = ap point_text (start_is 0 some) ∙ point_alike (w.nears 0 some).start in
      let c : curves_text k (curve_at Eight C) ≡ curves_text k f = alike_curves k (curve_at Eight C) f (λ i h. ap curve_text (is i h) ∙ curve_alike (w.nears i h)) in
      rw (s, c)

  pub export_again : export_text Eight C k ring ≡ ok (path_text ring k f)
  export_again =
      accepts C k ring l w.some (λ i h. rw (is i h) (curve-finite (w.nears i h))) (λ i h. rw (is i h) (curve_within_is (w.nears i h))) joints_meet ring_meets
      ∙ ap ok text_alike
