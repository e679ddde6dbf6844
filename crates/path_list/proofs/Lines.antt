-- Laws of the listing's lines. Assumes nothing.
use mathlib.Core.Path.{◌≡◌, refl, sym}
use mathlib.Core.Bool.{Bool}
use mathlib.Core.List.{List, ◌++◌}
use Prim.Native.Nat.{ℕ, zero, suc, ◌+◌, ◌-◌, ◌*◌, ◌≤◌}
use native.Mathlib.Nat.{add-zero}
use native.Mathlib.Numerals.{add-one}
use native.Mathlib.Omega.{arith}
use lib.ListN.{length, take, drop, length-drop}
use lib.Seq.{take-take, take-append-le, drop-append-le}
use lib.Ieee.{Float}
use Rattle.plane.specs.declared.Curve.{Curve}
use Rattle.text.specs.Put.{Put}
use Rattle.text.specs.Text.{decimal}
use Rattle.text.proofs.Stores.{next}
use Rattle.lines.specs.Lines.{piece_line}
use Rattle.path.specs.Curves.{eights}
use Rattle.path.proofs.Eights.{length-eights}
use Rattle.path_list.specs.PathList.{path_word, closed_word, head_line, curve_lines, path_lines}

-- ---- texts that were put one behind the other

pub put_head_line : (k : ℕ) (z : Bool) {l l₁ l₂ l₃ : List ℕ} {at e₁ e₂ e₃ : ℕ} → Put l at path_word l₁ e₁ → Put l₁ e₁ (decimal k) l₂ e₂ → Put l₂ e₂ (closed_word z) l₃ e₃
    → Put l at (head_line k z) l₃ e₃
unfolding head_line
put_head_line k z p q r = next (next p q) r

pub put_none : (C : List Float) (l : List ℕ) (at : ℕ) → Put l at (curve_lines 0 C) l at
unfolding curve_lines
put_none C l at = record { end = sym (add-zero at); out = refl }

-- curve i was lent as all numbers from its first on
pub put_next : (C : List Float) (i : ℕ) {l l₁ l₂ : List ℕ} {at e₁ e₂ : ℕ} → 8 * i + 8 ≤ length C → Put l at (curve_lines i C) l₁ e₁
    → Put l₁ e₁ (piece_line i (take 8 (take (length C - 8 * i) (drop (8 * i) C)))) l₂ e₂ → Put l at (curve_lines (i + 1) C) l₂ e₂
unfolding curve_lines
put_next C i h p q = rw (add-one i) (next p (rw (take-take 8 (length C - 8 * i) (drop (8 * i) C) (omega arith)) at q))

pub put-path_lines : (k : ℕ) (z : Bool) (C : List Float) {l l₁ l₂ : List ℕ} {at e₁ e₂ : ℕ} → Put l at (head_line k z) l₁ e₁ → Put l₁ e₁ (curve_lines k C) l₂ e₂
    → Put l at (path_lines k z C) l₂ e₂
unfolding path_lines
put-path_lines k z C p q = next p q

-- ---- what stands behind the curves is not listed

curve-front : (i : ℕ) (xs ys : List Float) → 8 * i + 8 ≤ length xs → take 8 (drop (8 * i) (xs ++ ys)) ≡ take 8 (drop (8 * i) xs)
curve-front i xs ys h =
    let l : 8 ≤ length (drop (8 * i) xs) = simp length-drop (omega arith) in
    let m : 8 * i ≤ length xs = omega arith in
    rw (drop-append-le (8 * i) xs ys m, take-append-le 8 (drop (8 * i) xs) ys l)

lines_front : (k : ℕ) (xs ys : List Float) → 8 * k ≤ length xs → curve_lines k (xs ++ ys) ≡ curve_lines k xs
unfolding curve_lines
lines_front zero xs ys h = refl
lines_front (suc k) xs ys h = rw (lines_front k xs ys (omega arith), curve-front k xs ys (omega arith))

pub path-front : (z : Bool) (cs : List Curve) (ys : List Float) → path_lines (length cs) z (eights cs ++ ys) ≡ path_lines (length cs) z (eights cs)
unfolding path_lines
path-front z cs ys = rw (lines_front (length cs) (eights cs) ys (omega (arith, length-eights cs)))
