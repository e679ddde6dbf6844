-- Where the pieces of a packed file stand in the file itself. Assumes nothing.
use mathlib.Core.Path.{◌≡◌, sym, ap, ◌∙◌}
use mathlib.Core.Bool.{true}
use mathlib.Core.List.{List, [], ◌∷◌, ◌++◌}
use Prim.Native.Nat.{ℕ, suc, ◌+◌, ◌-◌, ◌*◌, ◌<◌, ◌≤◌}
use native.Mathlib.Nat.{add-zero}
use native.Mathlib.Omega.{arith}
use lib.ListN.{length, take, drop, get_or}
use lib.Seq.{sets, drop-drop, get_or-drop, get_or_at}
use Rattle.form.specs.declared.Form.{Form}
use Rattle.form.specs.Form.{width}
use Rattle.house.specs.Limits.{field_for, mark_field, worst_marks, curve_bytes, numbers_at}
use Rattle.house.specs.Bytes.{num, row, words, les, all_fit}
use Rattle.house.specs.File.{File, marks_in}
use Rattle.house.specs.Held.{file_at}
use Rattle.house.proofs.Forms.{within, worsts-each}
use Rattle.house.proofs.Rows.{length-row, length-words, length-les, row_part, bytes_there}
use Rattle.grammar.proofs.Curves.{row_one, length-firsts}
use Rattle.packed.specs.Each.{each}
use Rattle.packed.specs.Packed.{rest_numbers, start_at, end_at, rest_at, worst_at, mark_at}
use Rattle.packed.proofs.Each.{each_at, each_piece, each_part, in_each_is}
use Rattle.packed.proofs.Sizes.{rest_is, rest_long}
use Rattle.packer.specs.Layout.{record_at, numbers_place}

-- ---- rows and their bytes

-- a part of the file that is so many numbers long, where it is put
pub part_put : (b l : List ℕ) (m p at x : ℕ) {r : ℕ} {l' : List ℕ} → all_fit 1 b ≡ true → p + 8 * m ≤ length b → x ≡ 8 * m → (r ≡ at + length (take x (drop p b))) × (l' ≡ sets l at (take x (drop p b)))
    → (r ≡ at + 8 * m) × (l' ≡ sets l at (les (words m (drop p b))))
part_put b l m p at x g h e (er, el) =
    let w : take x (drop p b) ≡ les (words m (drop p b)) = rw e (bytes_there b p m g h) in
    let z : length (les (words m (drop p b))) ≡ 8 * m = length-les (words m (drop p b)) ∙ rw length-words in
    (er ∙ rw (w, z), el ∙ rw w)

pub two_words : (b : List ℕ) (p : ℕ) → words 2 (drop p b) ≡ num 8 b p ∷ (num 8 b (p + 8) ∷ [])
unfolding row
two_words b p = rw drop-drop

-- ---- the numbers of a curve are within its record, and that within the file

pub numbers_within : (form : Form) (n k i : ℕ) → i < k → numbers_place form n i + 16 + 8 * rest_numbers form ≤ record_at form n k
numbers_within form n k i h = omega (arith, within (curve_bytes form (field_for n)) k i h, rest_is form)

-- ---- the pieces of a file that bytes are

module _ (b : List ℕ) (form : Form) (n k : ℕ) where
  abbrev F : File
  F = file_at b form n k

  abbrev S : ℕ
  S = curve_bytes form (field_for n)

  abbrev f : ℕ
  f = mark_field (field_for n)

  -- what stands at the place p of record i
  at_record : (p i : ℕ) → drop (S * i + p) (drop (20 + 16 * n) b) ≡ drop (record_at form n i + p) b
  at_record p i = let e : 20 + 16 * n + (S * i + p) ≡ record_at form n i + p = omega arith in rw (drop-drop, e)

  numbers : (i q m : ℕ) → i < k → q + m ≤ width form → take m (drop (width form * i + q) F.curves) ≡ words m (drop (numbers_place form n i + 8 * q) b)
  numbers i q m h s =
      let p : ℕ = numbers_at form (field_for n) in
      let g : ℕ → List ℕ = λ (j : ℕ). row 8 (width form) (drop (S * j + p) (drop (20 + 16 * n) b)) in
      let a : drop (8 * q) (drop (record_at form n i + p) b) ≡ drop (numbers_place form n i + 8 * q) b = drop-drop (8 * q) (record_at form n i + p) b in
      rw (in_each_is 8 (width form) p S k (drop (20 + 16 * n) b)) (each_part (width form) g k i (λ j l. length-row 8 (width form) (drop (S * j + p) (drop (20 + 16 * n) b))) h q m s)
      ∙ row_part 8 q m (width form) (drop (S * i + p) (drop (20 + 16 * n) b)) s
      ∙ rw (at_record p i, a)

  pub start_is : (i : ℕ) → i < k → start_at F i ≡ words 2 (drop (numbers_place form n i) b)
  start_is i h =
      let z : width form * i + 0 ≡ width form * i = add-zero (width form * i) in
      let z' : numbers_place form n i + 8 * 0 ≡ numbers_place form n i = omega arith in
      rw (z, z') at (numbers i 0 2 h (omega (arith, rest_is form)))

  pub end_is : (i : ℕ) → i < k → end_at F i ≡ words 2 (drop (numbers_place form n i + 48) b)
  end_is i h = numbers i 6 2 h (omega (arith, rest_is form, rest_long form))

  pub rest_at_is : (i : ℕ) → i < k → rest_at F i ≡ words (rest_numbers form) (drop (numbers_place form n i + 16) b)
  rest_at_is i h = numbers i 2 (rest_numbers form) h (omega (arith, rest_is form))

  pub worst_is : (i : ℕ) → i < k → worst_at F i ≡ row f (worst_marks form) (drop (record_at form n i + (6 + f)) b)
  worst_is i h =
      let g : ℕ → List ℕ = λ (j : ℕ). row f (worst_marks form) (drop (S * j + (6 + f)) (drop (20 + 16 * n) b)) in
      let a : worst_at F i ≡ g i =
      rw (worsts-each form i, in_each_is f (worst_marks form) (6 + f) S k (drop (20 + 16 * n) b)) (each_piece (worst_marks form) g k i (λ j l. length-row f (worst_marks form) (drop (S * j + (6 + f)) (drop (20 + 16 * n) b))) h) in
      a ∙ rw (at_record (6 + f) i)

  -- the first mark of a curve; behind the curves the last mark
  pub mark_some : (i : ℕ) → i < k → mark_at F i ≡ num f b (record_at form n i + 6)
  mark_some i h =
      let g : ℕ → List ℕ = λ (j : ℕ). row f 1 (drop (S * j + 6) (drop (20 + 16 * n) b)) in
      let r : List ℕ = (marks_in F - 1) ∷ [] in
      let a : drop (1 * i) (each k g ++ r) ≡ g i ++ drop (1 * suc i) (each k g ++ r) = each_at 1 g k i r (λ j l. length-row f 1 (drop (S * j + 6) (drop (20 + 16 * n) b))) h in
      let e : 1 * i + 0 ≡ i = omega arith in
      let d : get_or (drop (1 * i) (each k g ++ r)) 0 0 ≡ get_or (each k g ++ r) i 0 = get_or-drop (1 * i) (each k g ++ r) 0 0 ∙ rw e in
      rw (in_each_is f 1 6 S k (drop (20 + 16 * n) b)) (sym d ∙ rw (a, row_one, at_record 6 i))

  pub mark_last : (i : ℕ) → i ≡ k → mark_at F i ≡ n - 1
  mark_last i e =
      let m : marks_in F ≡ n = rw (length-words (2 * n) (drop 20 b)) (omega arith) in
      get_or_at F.firsts (marks_in F - 1) [] 0 i (length-firsts form (field_for n) k (drop (20 + 16 * n) b) ∙ sym e) ∙ ap (λ (x : ℕ). x - 1) m
