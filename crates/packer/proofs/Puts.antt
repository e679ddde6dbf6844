-- Bytes that are put one behind the other, and the packed file put together of them. Assumes nothing.
use mathlib.Core.Path.{◌≡◌, refl, sym, ◌∙◌}
use mathlib.Core.List.{List, ◌++◌, append_assoc, append-nil}
use Prim.Native.Nat.{ℕ, ◌+◌, ◌*◌, ◌<◌}
use native.Mathlib.Numerals.{add-one}
use native.Mathlib.Omega.{arith}
use lib.ListN.{length, drop, set, length-append}
use lib.Seq.{sets}
use Rattle.form.specs.declared.Form.{Form}
use Rattle.form.specs.declared.Form.TheVariants.{Eight, Nine}
use Rattle.house.specs.Limits.{field_for, mark_field, worst_marks}
use Rattle.house.specs.Bytes.{num, le, row, words, row_bytes, les}
use Rattle.house.specs.File.{File}
use Rattle.house.specs.Held.{file_at}
use Rattle.house.proofs.Numbers.{length-le}
use Rattle.house.proofs.Rows.{length-bytes, length-words}
use Rattle.grammar.proofs.Held.{sized_at}
use Rattle.text.proofs.Stores.{sets_append}
use Rattle.packed.specs.Each.{each}
use Rattle.packed.specs.Packed.{flag, rest_numbers, entry_bytes, mark_at, start_at, entry_of}
use Rattle.packed.proofs.Each.{each-length}
use Rattle.packed.proofs.Sizes.{entry_length, start_length}
use Rattle.packer.specs.Layout.{record_at, numbers_place, packed_length, lead_of}
use Rattle.packer.proofs.Pieces.{rest_at_is, worst_is, start_is}

-- the second behind the first
pub put_on : (l : List ℕ) (at : ℕ) (xs ys : List ℕ) {m m' : List ℕ} {p : ℕ} → m ≡ sets l at xs → m' ≡ sets m p ys → p ≡ at + length xs → m' ≡ sets l at (xs ++ ys)
put_on l at xs ys a b e = b ∙ rw (a, e) (sym (sets_append xs ys l at))

-- ---- a curve

pub flag-put : (l : List ℕ) (at : ℕ) (form : Form) → set l at (flag form) ≡ sets l at (le 1 (flag form))
unfolding le
flag-put l at Eight = refl
flag-put l at Nine = refl

-- the worst mark: none, or one
pub worst_none : (l : List ℕ) (at : ℕ) (form : Form) (f : ℕ) (d : List ℕ) → form ≡ Eight → l ≡ sets l at (row_bytes 4 (row f (worst_marks form) d))
unfolding row row_bytes
worst_none l at form f d e = rw e

pub worst_one : (l : List ℕ) (at : ℕ) (form : Form) (f p : ℕ) (b : List ℕ) → form ≡ Nine → sets l at (le 4 (num f b p)) ≡ sets l at (row_bytes 4 (row f (worst_marks form) (drop p b)))
unfolding row row_bytes
worst_one l at form f p b e = rw (e, append-nil)

module _ (b : List ℕ) (form : Form) (n k : ℕ) where
  abbrev F : File
  F = file_at b form n k

  abbrev f : ℕ
  f = mark_field (field_for n)

  -- its next mark number, its numbers and its worst mark
  pub entry_put : (l : List ℕ) (at i s m : ℕ) → i < k → s ≡ numbers_place form n i + 16 → m ≡ rest_numbers form → {m1 m2 m3 : List ℕ} {x p q : ℕ} → x ≡ mark_at F (i + 1) → m1 ≡ sets l at (le 4 x) → m2 ≡ sets m1 p (les (words m (drop s b)))
      → m3 ≡ sets m2 q (row_bytes 4 (row f (worst_marks form) (drop (record_at form n i + (6 + f)) b))) → p ≡ at + 4 → q ≡ p + 8 * m → m3 ≡ sets l at (entry_of F i)
  entry_put l at i s m h es em {m1} {m2} {m3} {x} {p} {q} ex e1 e2 e3 ep eq =
      let r : List ℕ = les (words m (drop s b)) in
      let w : List ℕ = row_bytes 4 (row f (worst_marks form) (drop (record_at form n i + (6 + f)) b)) in
      let lr : length r ≡ 8 * m = length-bytes 8 (words m (drop s b)) ∙ rw length-words in
      let l1 : length (le 4 x) ≡ 4 = length-le 4 x in
      let p2 : q ≡ at + length (le 4 x ++ r) = simp (length-append, l1, lr) (omega arith) in
      let a : m3 ≡ sets l at ((le 4 x ++ r) ++ w) = put_on l at (le 4 x ++ r) w (put_on l at (le 4 x) r e1 e2 (omega arith)) e3 p2 in
      let z : (le 4 x ++ r) ++ w ≡ entry_of F i = rw (append_assoc, rest_at_is b form n k i h, worst_is b form n k i h, es, em, ex, add-one i) in
      rw z at a

  -- one more
  pub entries_put : (l : List ℕ) (at i : ℕ) → i < k → {m m' : List ℕ} {p : ℕ} → m ≡ sets l at (each i (entry_of F)) → m' ≡ sets m p (entry_of F i) → p ≡ at + entry_bytes form * i → m' ≡ sets l at (each (i + 1) (entry_of F))
  unfolding each
  entries_put l at i h e e' ep =
      let z : length (each i (entry_of F)) ≡ entry_bytes form * i = each-length (entry_bytes form) (entry_of F) i (λ j g. entry_length (sized_at b form n k) j (omega arith)) in
      rw (add-one i) (put_on l at (each i (entry_of F)) (entry_of F i) e e' (omega arith))

  -- ---- the record up to its first curve

  pub lead_put : (l : List ℕ) (at : ℕ) → 0 < k → {m1 m2 m3 m4 : List ℕ} {x y p q r : ℕ} → x ≡ packed_length form k → y ≡ mark_at F 0 → m1 ≡ sets l at (le 4 x ++ le 2 8) → m2 ≡ sets m1 p (le 1 (flag form)) → m3 ≡ sets m2 q (le 4 y)
      → m4 ≡ sets m3 r (les (words 2 (drop (numbers_place form n 0) b))) → p ≡ at + 6 → q ≡ at + 7 → r ≡ at + 11 → m4 ≡ sets l at (lead_of F k)
  lead_put l at h {m1} {m2} {m3} {m4} {x} {y} {p} {q} {r} ex ey e1 e2 e3 e4 ep eq er =
      let hd : List ℕ = le 4 x ++ le 2 8 in
      let fl : List ℕ = le 1 (flag form) in
      let st : List ℕ = les (words 2 (drop (numbers_place form n 0) b)) in
      let l1 : length hd ≡ 6 = simp (length-append, length-le) in
      let l2 : length fl ≡ 1 = length-le 1 (flag form) in
      let l3 : length (le 4 y) ≡ 4 = length-le 4 y in
      let p2 : q ≡ at + length (hd ++ fl) = rw (length-append hd fl, l1, l2) (omega arith) in
      let p3 : r ≡ at + length ((hd ++ fl) ++ le 4 y) = rw (length-append (hd ++ fl) (le 4 y), length-append hd fl, l1, l2, l3) (omega arith) in
      let a : m4 ≡ sets l at (((hd ++ fl) ++ le 4 y) ++ st) = put_on l at ((hd ++ fl) ++ le 4 y) st (put_on l at (hd ++ fl) (le 4 y) (put_on l at hd fl e1 e2 (omega arith)) e3 p2) e4 p3 in
      let g : hd ++ (fl ++ (le 4 y ++ st)) ≡ lead_of F k = rw (start_is b form n k 0 h, ex, ey) in
      let s : ((hd ++ fl) ++ le 4 y) ++ st ≡ hd ++ (fl ++ (le 4 y ++ st)) = append_assoc (hd ++ fl) (le 4 y) st ∙ append_assoc hd fl (le 4 y ++ st) in
      rw (s ∙ g) at a

  pub length_lead : 0 < k → length (lead_of F k) ≡ 27
  length_lead h = let a : length (start_at F 0) ≡ 2 = start_length (sized_at b form n k) 0 h in simp (length-append, length-le, length-bytes, a)
