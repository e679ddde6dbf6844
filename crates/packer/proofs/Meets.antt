-- Curves that meet: a joint more, and one that does not. Assumes nothing.
use mathlib.Core.Path.{◌≡◌, sym, ◌∙◌}
use mathlib.Core.Bool.{true, false}
use mathlib.Core.List.{List}
use Prim.Native.Nat.{ℕ, suc, ◌+◌, ◌-◌, ◌<◌}
use native.Mathlib.Numerals.{add-one}
use native.Mathlib.Omega.{arith}
use lib.Dec.{eqb}
use lib.ListN.{drop}
use Rattle.float.proofs.Truth.{and-true, not_so}
use Rattle.form.specs.declared.Form.{Form}
use Rattle.house.specs.Bytes.{num, words, same}
use Rattle.house.specs.File.{File}
use Rattle.house.specs.Held.{file_at}
use Rattle.grammar.proofs.Candidate.{same_in, same_out}
use Rattle.grammar.proofs.Formed.{Sized}
use Rattle.grammar.proofs.Held.{sized_at}
use Rattle.packed.specs.Each.{each}
use Rattle.packed.specs.Packed.{start_at, end_at, meets}
use Rattle.packed.proofs.Back.{meets_at}
use Rattle.packer.specs.Layout.{numbers_place}
use Rattle.packer.proofs.Pieces.{two_words, start_is, end_is}

-- two points: by both numbers, or not by the first
module _ (b : List ℕ) (p q : ℕ) where
  pub point_by : eqb (num 8 b p) (num 8 b q) ≡ true → eqb (num 8 b (p + 8)) (num 8 b (q + 8)) ≡ same (words 2 (drop p b)) (words 2 (drop q b))
  unfolding same
  point_by e = rw (two_words b p, two_words b q, e) (sym (and-true (eqb (num 8 b (p + 8)) (num 8 b (q + 8)))))

  pub point_no : eqb (num 8 b p) (num 8 b q) ≡ false → false ≡ same (words 2 (drop p b)) (words 2 (drop q b))
  unfolding same
  point_no e = rw (two_words b p, two_words b q, e)

module _ (b : List ℕ) (form : Form) (n k : ℕ) where
  abbrev F : File
  F = file_at b form n k

  -- the start of the next curve
  abbrev next : ℕ → List ℕ
  next i = start_at F (suc i)

  sized : Sized F n k
  sized = sized_at b form n k

  -- curve i ends where the next one starts, by what stands in the bytes
  abbrev joint : ℕ → ℕ → Type 0
  joint i j = same (words 2 (drop (numbers_place form n i + 48) b)) (words 2 (drop (numbers_place form n j) b)) ≡ true

  pub meet_more : (i : ℕ) → i < k - 1 → each i (end_at F) ≡ each i next → joint i (i + 1) → each (i + 1) (end_at F) ≡ each (i + 1) next
  unfolding each
  meet_more i h e s =
      let t : end_at F i ≡ next i = end_is b form n k i (omega arith) ∙ same_out _ _ (rw (add-one i) at s) ∙ sym (start_is b form n k (suc i) (omega arith)) in
      rw (add-one i, e, t)

  pub meet_all : each (k - 1) (end_at F) ≡ each (k - 1) next → meets F ≡ true
  unfolding meets
  meet_all e = rw (sized.firsts, e) (same_in (each (k - 1) next))

  pub meet_not : (i : ℕ) → i < k - 1 → (joint i (i + 1) → ⊥) → false ≡ meets F
  meet_not i h never =
      sym
      (not_so (meets F) (λ e.
      let t : words 2 (drop (numbers_place form n i + 48) b) ≡ words 2 (drop (numbers_place form n (i + 1)) b) = sym (end_is b form n k i (omega arith)) ∙ meets_at sized e i (omega arith) ∙ rw (add-one i) (start_is b form n k (suc i) (omega arith)) in
      never (rw t (same_in (words 2 (drop (numbers_place form n (i + 1)) b))))))
