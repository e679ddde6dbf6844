-- What export tells of a list whose text it gives. Assumes nothing.
use Prim.Native.Nat.{ℕ, zero, suc, ◌+◌, ◌-◌, ◌*◌, ◌<◌, ◌≤◌}
use mathlib.Core.Path.{◌≡◌, refl, sym, ap, ◌∙◌}
use mathlib.Core.Bool.{Bool, true, not, ◌&&◌, ◌||◌}
use mathlib.Core.List.{List}
use native.Mathlib.Omega.{arith}
use borrow.Author.Tests.{le-leb, eqb-true}
use lib.Dec.{T, ltb, leb, eqb}
use lib.ListN.{length, drop}
use lib.Seq.{get_or-drop}
use lib.Ieee.{Float, nan, binary64, fits, of_bits, to_bits}
use lib.Ieee.Bits.{of_bits-to_bits}
use Rattle.float.specs.Answer.{ok}
use Rattle.float.proofs.Truth.{and_left, and_right, both}
use Rattle.plane.specs.declared.Point.{Point}
use Rattle.marks.specs.Marks.{mark_at}
use Rattle.form.specs.Form.{width}
use Rattle.form.specs.declared.Form.{Form}
use Rattle.faults.specs.Tests.{curve_of, curve_at, same}
use Rattle.path.specs.Text.{path_text}
use Rattle.path.specs.Range.{every}
use Rattle.export.specs.Export.{whole_in, joined, meets, export_text}
use Rattle.path_text.proofs.Records.{every_at}
use Rattle.path_text.proofs.Parts.{curve_at_is}
use Rattle.export.proofs.Exported.{exported as tells}
use Rattle.path_trips.specs.Trips.{Held}
use Rattle.path_trips.proofs.Near.{near-curve}
use Rattle.path_trips.proofs.Read.{Whole}

-- ---- tests in turn

pub every_all : (n : ℕ) (p : ℕ → Bool) → ((i : ℕ) → i < n → p i ≡ true) → every n p ≡ true
unfolding every
every_all zero p h = refl
every_all (suc n) p h = both _ _ (every_all n p (λ i l. h i (omega arith))) (h n (omega arith))

-- ---- equal bit for bit

abbrev Fits : Float → Type 0
Fits x = T (fits binary64 x)

same_float : (x y : Float) → Fits x → Fits y → eqb (to_bits binary64 x) (to_bits binary64 y) ≡ true → x ≡ y
same_float x y hx hy e = sym (of_bits-to_bits binary64 x hx) ∙ ap (of_bits binary64) (eqb-true _ _ e) ∙ of_bits-to_bits binary64 y hy

abbrev FitsP : Point → Type 0
FitsP p = Fits p.x × Fits p.y

same_point : (p q : Point) → FitsP p → FitsP q → same p q ≡ true → p ≡ q
unfolding same
same_point p q hp hq e =
    let a = eqb (to_bits binary64 p.x) (to_bits binary64 q.x) in
    let b = eqb (to_bits binary64 p.y) (to_bits binary64 q.y) in
    let ex : p.x ≡ q.x = same_float p.x q.x hp.0 hq.0 (and_left a b e) in
    let ey : p.y ≡ q.y = same_float p.y q.y hp.1 hq.1 (and_right a b e) in
    λ i. record { x = ex i; y = ey i }

held-drop : (n : ℕ) (C : List Float) → Held C → Held (drop n C)
held-drop n C h i = rw (get_or-drop n C i nan) (h (n + i))

held-mark : (C : List Float) → Held C → (j : ℕ) → FitsP (mark_at C j)
unfolding mark_at
held-mark C h j = (h (2 * j), h (2 * j + 1))

module _ (form : Form) (C : List Float) (h : Held C) (i : ℕ) where
  held_start : FitsP (curve_at form C i).start
  unfolding curve_at curve_of
  held_start = held-mark (drop (width form * i) C) (held-drop (width form * i) C h) 0

  held_end : FitsP (curve_at form C i).end
  unfolding curve_at curve_of
  held_end = held-mark (drop (width form * i) C) (held-drop (width form * i) C h) 3

-- ---- what is exported

pub record Exported (form : Form) (C : List Float) (k : ℕ) (ring : Bool) (t : List ℕ) : Type 0 where
  pub whole : Whole ring k (curve_at form C)
  pub text : path_text ring k (curve_at form C) ≡ t

ring_met : (ring : Bool) (b c : Bool) → b ≡ true → not (ring && b) || c ≡ true → ring ≡ true → c ≡ true
ring_met ring b c hb h hr = rw (hr, hb) at h

pub exported : (form : Form) (C : List Float) (k : ℕ) (ring : Bool) (t : List ℕ) → Held C → export_text form C k ring ≡ ok t → Exported form C k ring t
unfolding meets joined
exported form C k ring t held e =
    let x = tells form C k ring t e in
    let f = curve_at form C in
    let h : ℕ = whole_in form (length C) k in
    let l : k ≤ h = x.held in
    let m1 = and_right (ltb 0 k) (joined h f && (not (ring && leb k h) || same (f (k - 1)).end (f 0).start)) x.joined in
    let js : joined h f ≡ true = and_left (joined h f) (not (ring && leb k h) || same (f (k - 1)).end (f 0).start) m1 in
    let rs = and_right (joined h f) (not (ring && leb k h) || same (f (k - 1)).end (f 0).start) m1 in
    record {
      whole = record {
        some = x.some;
        nears = λ i a. near-curve (f i) (curve_at_is i x.writable a).0 (curve_at_is i x.writable a).1;
        joints = λ i a. same_point (f i).end (f (suc i)).start (held_end form C held i) (held_start form C held (suc i)) (every_at (h - 1) i (λ j. same (f j).end (f (suc j)).start) js (omega arith));
        round = λ r. same_point (f (k - 1)).end (f 0).start (held_end form C held (k - 1)) (held_start form C held 0) (ring_met ring (leb k h) _ (le-leb k h l) rs r);
      };
      text = cc x.text;
    }
