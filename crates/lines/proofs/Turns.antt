-- Laws of the listing's lines: one more number, one more curve. Assumes nothing.
use mathlib.Core.Path.{◌≡◌, refl, sym, ◌∙◌}
use mathlib.Core.List.{List, [], ◌∷◌, ◌++◌, append-nil, append_assoc}
use Prim.Native.Nat.{ℕ, zero, suc, ◌+◌, ◌-◌, ◌*◌, ◌<◌, ◌≤◌}
use native.Mathlib.Numerals.{add-one}
use native.Mathlib.Omega.{arith}
use lib.ListN.{length, take, drop, get_or, length-append}
use lib.Seq.{take-suc, take-take, drop-drop}
use lib.Ieee.{Float, nan}
use Rattle.text.specs.Put.{Put}
use Rattle.text.specs.Text.{decimal}
use Rattle.text.proofs.Digits.{length-hex}
use Rattle.lines.specs.Lines.{pair_line, numbers, piece_line, piece_lines}

-- how long a line of two words and two numbers is
pub length-pair : (w : List ℕ) (a : ℕ) (v : List ℕ) (b : ℕ) → length (pair_line w a v b) ≡ length w + length (decimal a) + length v + length (decimal b) + 1
unfolding pair_line
length-pair w a v b = simp length-append (omega arith)

pub length-numbers : (xs : List Float) → length (numbers xs) ≡ 17 * length xs
unfolding numbers
length-numbers [] = refl
length-numbers (x ∷ xs) = simp (length-append, length-hex, length-numbers xs) (omega arith)

numbers_append : (xs ys : List Float) → numbers (xs ++ ys) ≡ numbers xs ++ numbers ys
unfolding numbers
numbers_append [] ys = refl
numbers_append (x ∷ xs) ys = rw (numbers_append xs ys) (simp append_assoc)

-- one more number
pub numbers-suc : (xs : List Float) (i : ℕ) → i < length xs → numbers (take i xs) ++ numbers (get_or xs i nan ∷ []) ≡ numbers (take (i + 1) xs)
numbers-suc xs i h = sym (rw (add-one i, take-suc xs i nan, numbers_append))

-- one more curve
pieces_next : (P : List ℕ) (C : List Float) (i : ℕ) → i < length P → piece_lines (take i P) C ++ piece_line (get_or P i 0) (take 8 (drop (9 * i) C)) ≡ piece_lines (take (suc i) P) C
unfolding piece_lines
pieces_next [] C i h = absurd (omega arith)
pieces_next (p ∷ P) C zero h = sym (append-nil (piece_line p (take 8 C)))
pieces_next (p ∷ P) C (suc i) h =
    let e : 9 + 9 * i ≡ 9 * suc i = omega arith in
    let s = rw (drop-drop, e) at (pieces_next P (drop 9 C) i (omega arith)) in
    append_assoc (piece_line p (take 8 C)) (piece_lines (take i P) (drop 9 C)) (piece_line (get_or P i 0) (take 8 (drop (9 * suc i) C))) ∙ rw s

pub pieces_suc : (P : List ℕ) (C : List Float) (i : ℕ) → i < length P
    → piece_lines (take i P) C ++ piece_line (get_or P i 0) (take 8 (drop (9 * i) C)) ≡ piece_lines (take (i + 1) P) C
pieces_suc P C i h = rw (add-one i) (pieces_next P C i h)

-- the line of a curve that was lent as all numbers from 9 * i on
piece_part : (C : List Float) (i : ℕ) → 9 * i + 9 ≤ length C → take 8 (take (length C - 9 * i) (drop (9 * i) C)) ≡ take 8 (drop (9 * i) C)
piece_part C i h = take-take 8 (length C - 9 * i) (drop (9 * i) C) (omega arith)

pub piece_put : (C : List Float) (i p : ℕ) {l m : List ℕ} {at e : ℕ} → 9 * i + 9 ≤ length C → Put l at (piece_line p (take 8 (take (length C - 9 * i) (drop (9 * i) C)))) m e → Put l at (piece_line p (take 8 (drop (9 * i) C))) m e
piece_put C i p h q = rw (piece_part C i h) at q
