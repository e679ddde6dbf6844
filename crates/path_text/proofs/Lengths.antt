-- How long the texts are, by their parts. Assumes nothing.
use mathlib.Core.Path.{◌≡◌, refl, sym, ap}
use mathlib.Core.Bool.{Bool, true, false}
use mathlib.Core.List.{List, [], ◌∷◌}
use Prim.Native.Nat.{ℕ, zero, suc, ◌+◌, ◌-◌, ◌/◌, ◌%◌, ◌*◌, ◌≤◌, ◌<◌}
use native.Mathlib.Nat.{add-zero}
use native.Mathlib.Numerals.{add-one}
use native.Mathlib.Omega.{arith}
use borrow.Author.Tests.{ltb-true, ltb-false}
use lib.Dec.{ltb}
use lib.ListN.{length, length-append}
use lib.Ieee.{Float}
use Rattle.float.specs.Number.{finite}
use Rattle.plane.specs.declared.Point.{Point}
use Rattle.plane.specs.declared.Curve.{Curve}
use Rattle.text.specs.Put.{Put}
use Rattle.text.proofs.Stores.{next}
use Rattle.text.proofs.Digits.{decimal-length}
use Rattle.path.specs.Decimals.{written_of, decimal_text, most}
use Rattle.path.specs.Text.{number_text, point_text, curve_text, curves_text, closing_text, path_text}
use Rattle.plane.specs.Range.{point_finite}
use Rattle.form.specs.declared.Form.{Form}
use Rattle.faults.specs.Tests.{curve_at, curve_finite}
use Rattle.path.specs.Range.{within, point_within, curve_within}
use Rattle.path_text.specs.Writable.{Writable}
use Rattle.path_text.proofs.Parts.{x_fine, y_fine, curve-fine, curve_at_is}
use Rattle.figures.proofs.Places.{none, length-text, short-places, short-sign}
use Rattle.thousandths.proofs.Back.{written_small}

-- ---- lengths

pub number_text_is : (x : Float) → length (number_text x) ≡ suc (length (decimal_text (written_of x)))
unfolding number_text
number_text_is x = refl

-- a blank, a sign, nine digits, a point and three more; of 1,000,000,000 there is no more than ten digits
pub number_short : (x : Float) → finite x ≡ true → within x ≡ true → length (number_text x) ≤ 15
number_short x f w = go (ltb (written_of x).thousandths most) refl (written_small x f w)
  where
    go : (b : Bool) → ltb (written_of x).thousandths most ≡ b → (written_of x).thousandths ≤ most → length (number_text x) ≤ 15
    go true e s =
        let d = written_of x in
        let m : d.thousandths < most = ltb-true d.thousandths most e in
        let n = decimal-length 8 (d.thousandths / 1000) (omega arith) in
        omega (arith, number_text_is x, length-text d, short-places (d.thousandths % 1000), short-sign d.negative)
    go false e s =
        let d = written_of x in
        let m : most ≤ d.thousandths = ltb-false d.thousandths most e in
        let n = decimal-length 9 (d.thousandths / 1000) (omega arith) in
        let z : d.thousandths % 1000 ≡ 0 = omega arith in
        omega (arith, number_text_is x, length-text d, ap length (none (d.thousandths % 1000) z), short-sign d.negative)

pub point-text : (p : Point) → length (point_text p) ≡ length (number_text p.x) + length (number_text p.y)
unfolding point_text
point-text p = length-append (number_text p.x) (number_text p.y)

pub curve-text : (c : Curve) → length (curve_text c) ≡ 2 + (length (point_text c.cp1) + (length (point_text c.cp2) + length (point_text c.end)))
unfolding curve_text
curve-text c = simp length-append (omega arith)

pub curves-text : (i : ℕ) (f : ℕ → Curve) → length (curves_text (i + 1) f) ≡ length (curves_text i f) + length (curve_text (f i))
unfolding curves_text
curves-text i f = rw (add-one i) (length-append (curves_text i f) (curve_text (f i)))

-- one curve of n
pub curves_grow : (n i : ℕ) (f : ℕ → Curve) → i < n → length (curves_text i f) + length (curve_text (f i)) ≤ length (curves_text n f)
curves_grow n i f h = upto (n - (i + 1)) (omega arith)
  where
    upto : (d : ℕ) → i + 1 + d ≡ n → length (curves_text i f) + length (curve_text (f i)) ≤ length (curves_text n f)
    upto d e = rw (sym e) (go d)
      where
        go : (d : ℕ) → length (curves_text i f) + length (curve_text (f i)) ≤ length (curves_text (i + 1 + d) f)
        go zero = let z : i + 1 + 0 ≡ i + 1 = omega arith in rw z (omega (arith, curves-text i f))
        go (suc d) = let z : i + 1 + suc d ≡ i + 1 + d + 1 = omega arith in let r = go d in rw z (omega (arith, curves-text (i + 1 + d) f, r))

pub path-text : (ring : Bool) (n : ℕ) (f : ℕ → Curve)
    → length (path_text ring n f) ≡ suc (length (point_text (f 0).start)) + (length (curves_text n f) + length (closing_text ring))
unfolding path_text
path-text ring n f = simp length-append

-- ---- how long at most

point-short : (p : Point) → point_finite p ≡ true → point_within p ≡ true → length (point_text p) ≤ 30
point-short p f w =
    let x = x_fine p f w in
    let y = y_fine p f w in
    omega (arith, point-text p, number_short p.x x.0 x.1, number_short p.y y.0 y.1)

curve-short : (c : Curve) → curve_finite c ≡ true → curve_within c ≡ true → length (curve_text c) ≤ 92
curve-short c f w =
    let p = curve-fine c f w in
    omega (arith, curve-text c, point-short c.cp1 p.cp1.0 p.cp1.1, point-short c.cp2 p.cp2.0 p.cp2.1, point-short c.end p.end.0 p.end.1)

module _ {form : Form} {C : List Float} {n : ℕ} (w : Writable form C n) where
  curves-short : (i : ℕ) → i ≤ n → length (curves_text i (curve_at form C)) ≤ 92 * i
  unfolding curves_text
  curves-short zero h = omega arith
  curves-short (suc i) h =
      let f = curve_at form C in
      let t = curve_at_is i w h in
      let s = curves-short i (omega arith) in
      omega (arith, length-append (curves_text i f) (curve_text (f i)), curve-short (f i) t.0 t.1, s)

  pub path-short : (ring : Bool) → 0 < n → length (path_text ring n (curve_at form C)) ≤ 33 + 92 * n
  path-short ring h =
      let f = curve_at form C in
      let t = curve_at_is 0 w h in
      let p = (curve-fine (f 0) t.0 t.1).start in
      omega (arith, path-text ring n f, point-short (f 0).start p.0 p.1, curves-short n (omega arith), closing-short ring)
    where
      closing-short : (ring : Bool) → length (closing_text ring) ≤ 2
      closing-short true = omega arith
      closing-short false = omega arith

-- ---- texts that were put one behind the other

pub put_number_text : (x : Float) {l l₁ l₂ : List ℕ} {at e₁ e₂ : ℕ} → Put l at (32 ∷ []) l₁ e₁ → Put l₁ e₁ (decimal_text (written_of x)) l₂ e₂ → Put l at (number_text x) l₂ e₂
unfolding number_text
put_number_text x p q = next p q

pub put-point-text : (p : Point) {l l₁ l₂ : List ℕ} {at e₁ e₂ : ℕ} → Put l at (number_text p.x) l₁ e₁ → Put l₁ e₁ (number_text p.y) l₂ e₂ → Put l at (point_text p) l₂ e₂
unfolding point_text
put-point-text p q r = next q r

pub put-curve-text : (c : Curve) {l l₁ l₂ l₃ l₄ : List ℕ} {at e₁ e₂ e₃ e₄ : ℕ} → Put l at (32 ∷ 67 ∷ []) l₁ e₁ → Put l₁ e₁ (point_text c.cp1) l₂ e₂
    → Put l₂ e₂ (point_text c.cp2) l₃ e₃ → Put l₃ e₃ (point_text c.end) l₄ e₄ → Put l at (curve_text c) l₄ e₄
unfolding curve_text
put-curve-text c p q r s = next p (next q (next r s))

pub put-curves_none : (f : ℕ → Curve) (l : List ℕ) (at : ℕ) → Put l at (curves_text 0 f) l at
unfolding curves_text
put-curves_none f l at = record { end = sym (add-zero at); out = refl }

pub put-curves_next : (i : ℕ) (f : ℕ → Curve) {l l₁ l₂ : List ℕ} {at e₁ e₂ : ℕ} → Put l at (curves_text i f) l₁ e₁ → Put l₁ e₁ (curve_text (f i)) l₂ e₂ → Put l at (curves_text (i + 1) f) l₂ e₂
unfolding curves_text
put-curves_next i f p q = rw (add-one i) (next p q)

pub put-path-text : (ring : Bool) (n : ℕ) (f : ℕ → Curve) {l l₁ l₂ l₃ l₄ : List ℕ} {at e₁ e₂ e₃ e₄ : ℕ} → Put l at (77 ∷ []) l₁ e₁ → Put l₁ e₁ (point_text (f 0).start) l₂ e₂
    → Put l₂ e₂ (curves_text n f) l₃ e₃ → Put l₃ e₃ (closing_text ring) l₄ e₄ → Put l at (path_text ring n f) l₄ e₄
unfolding path_text
put-path-text ring n f p q r s = next (next p q) (next r s)
