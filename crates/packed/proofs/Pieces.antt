-- The pieces of what stands at the places of a packed file. Assumes nothing.
use mathlib.Core.Path.{◌≡◌, refl, sym, ap, ◌∙◌}
use mathlib.Core.Bool.{Bool, true, false}
use mathlib.Core.List.{List, [], ◌∷◌, ◌++◌}
use Prim.Native.Nat.{ℕ, zero, suc, ◌+◌, ◌-◌, ◌*◌, ◌/◌, ◌<◌, ◌≤◌}
use native.Mathlib.Omega.{arith}
use borrow.Author.Tests.{ltb-true, ltb-false}
use lib.Dec.{ltb}
use lib.ListN.{length, take, drop, get_or, length-append}
use lib.Seq.{drop-drop, take_at, drop_at, take_all, take-take, drop-cons, get_or-append_seam}
use Rattle.form.specs.declared.Form.{Form}
use Rattle.form.specs.declared.Form.TheVariants.{Eight, Nine}
use Rattle.form.specs.Form.{width, worsts_for}
use Rattle.house.specs.Limits.{worst_marks}
use Rattle.house.specs.Bytes.{num, row, words, all_fit}
use Rattle.house.specs.File.{File, marks_in, params_for}
use Rattle.house.proofs.Forms.{worsts-each}
use Rattle.house.proofs.Rows.{length-row, length-words, fit_row, row_part}
use Rattle.house.proofs.Numbers.{fit-drop, fit_append}
use Rattle.grammar.proofs.Curves.{row_one}
use Rattle.grammar.proofs.Formed.{Sized}
use Rattle.packed.specs.Each.{each}
use Rattle.packed.specs.Packed.{rest_numbers, start_at, end_at, rest_at, worst_at, mark_at}
use Rattle.packed.specs.Unpacked.{entry_at, first_place, start_place, rest_place, worst_place, firsts_in, worsts_in, packed_at}
use Rattle.packed.proofs.Each.{each-length, each-fit, each_at, each-front, each_piece, each_part}
use Rattle.packed.proofs.Sizes.{rest_is, rest_long}

-- a part of the front of a list is one of the list
pub part_of : (p m r : ℕ) (l : List ℕ) → p + m ≤ r → take m (drop p (take r l)) ≡ take m (drop p l)
part_of zero m r l h = take-take m r l (omega arith)
part_of (suc p) m zero l h = absurd (omega arith)
part_of (suc p) m (suc r) [] h = refl
part_of (suc p) m (suc r) (x ∷ l) h = part_of p m r l (omega arith)

-- ---- mark numbers, at places that go by the curve

abbrev pub mark : List ℕ → (ℕ → ℕ) → ℕ → List ℕ
mark b place i = row 4 1 (drop (place i) b)

-- worst marks: one for each curve, or none
pub none_each : (b : List ℕ) (place : ℕ → ℕ) (k : ℕ) → each k (λ (i : ℕ). row 4 0 (drop (place i) b)) ≡ []
unfolding each row
none_each b place zero = refl
none_each b place (suc k) = rw (none_each b place k)

pub worsts-as : (b : List ℕ) (form : Form) (n k : ℕ) → each (worsts_for form k) (mark b (worst_place form n)) ≡ worsts_in b form n k
unfolding each
worsts-as b Eight n k = sym (none_each b (worst_place Eight n) k)
worsts-as b Nine n k = refl

module _ (b : List ℕ) (form : Form) (n k : ℕ) where
  abbrev X : File
  X = packed_at b form n k

  abbrev curve_in : ℕ → List ℕ
  curve_in i = words 2 (drop (start_place form n i) b) ++ words (rest_numbers form) (drop (rest_place form n i) b)

  abbrev first_in : ℕ → List ℕ
  first_in i = row 4 1 (drop (first_place form n i) b)

  abbrev worst_in : ℕ → List ℕ
  worst_in i = row 4 (worst_marks form) (drop (worst_place form n i) b)

  curve-length : (i : ℕ) → i < k → length (curve_in i) ≡ width form
  curve-length i h = simp (length-append, length-row) (rest_is form)

  first_length : (i : ℕ) → i < k → length (first_in i) ≡ 1
  first_length i h = length-row 4 1 (drop (first_place form n i) b)

  worst-length : (i : ℕ) → i < k → length (worst_in i) ≡ worst_marks form
  worst-length i h = length-row 4 (worst_marks form) (drop (worst_place form n i) b)

  pub sized_packed : Sized X n k
  sized_packed = record {
    marks = length-words (2 * n) (drop 20 b);
    firsts = each-length 1 first_in k first_length ∙ omega arith;
    worsts = each-length (worst_marks form) worst_in k worst-length ∙ sym (worsts-each form k);
    curves = each-length (width form) curve_in k curve-length;
    params = length-words (params_for n k) (drop (entry_at form n k + 6) b);
  }

  module _ (i : ℕ) (h : i < k) where
    -- the numbers of curve i but its start
    rest_there : drop 2 (curve_in i) ≡ words (rest_numbers form) (drop (rest_place form n i) b)
    rest_there = drop_at (words 2 (drop (start_place form n i) b)) (words (rest_numbers form) (drop (rest_place form n i) b)) 2 (length-words 2 (drop (start_place form n i) b))

    pub start_piece : start_at X i ≡ words 2 (drop (start_place form n i) b)
    start_piece =
        each-front (width form) curve_in k i curve-length h 2 (omega (arith, rest_is form))
        ∙ take_at (words 2 (drop (start_place form n i) b)) (words (rest_numbers form) (drop (rest_place form n i) b)) 2 (length-words 2 (drop (start_place form n i) b))

    pub rest_piece : rest_at X i ≡ words (rest_numbers form) (drop (rest_place form n i) b)
    rest_piece =
        each_part (width form) curve_in k i curve-length h 2 (rest_numbers form) (omega (arith, rest_is form))
        ∙ rw rest_there (take_all (rest_numbers form) (words (rest_numbers form) (drop (rest_place form n i) b)) (omega (arith, length-words (rest_numbers form) (drop (rest_place form n i) b))))

    pub end_piece : end_at X i ≡ words 2 (drop (rest_place form n i + 32) b)
    end_piece =
        let a : take 2 (drop 6 (curve_in i)) ≡ take 2 (drop 4 (drop 2 (curve_in i))) = rw (drop-drop 4 2 (curve_in i)) in
        let r : take 2 (drop 4 (words (rest_numbers form) (drop (rest_place form n i) b))) ≡ words 2 (drop (8 * 4) (drop (rest_place form n i) b)) =
        row_part 8 4 2 (rest_numbers form) (drop (rest_place form n i) b) (omega (arith, rest_long form)) in
        let p : drop 32 (drop (rest_place form n i) b) ≡ drop (rest_place form n i + 32) b = drop-drop 32 (rest_place form n i) b in
        each_part (width form) curve_in k i curve-length h 6 2 (omega (arith, rest_is form, rest_long form)) ∙ a ∙ rw rest_there (r ∙ ap (words 2) p)

    pub worst_piece : worst_at X i ≡ row 4 (worst_marks form) (drop (worst_place form n i) b)
    worst_piece =
        rw (worsts-each form i) (each_piece (worst_marks form) worst_in k i worst-length h)

  -- a first mark, and behind the last one the number that stands as the last
  first_get : (i : ℕ) (r : List ℕ) → i < k → get_or (firsts_in b form n k ++ r) i 0 ≡ num 4 b (first_place form n i)
  first_get i r h =
      let one : 1 * i ≡ i = omega arith in
      let d : drop i (firsts_in b form n k ++ r) ≡ first_in i ++ drop (1 * suc i) (firsts_in b form n k ++ r) = rw one at (each_at 1 first_in k i r first_length h) in
      let l : length (firsts_in b form n k) ≡ k = sized_packed.firsts in
      let c = drop-cons (firsts_in b form n k ++ r) i 0 (simp length-append (omega arith)) in
      let e : get_or (firsts_in b form n k ++ r) i 0 ∷ drop (suc i) (firsts_in b form n k ++ r) ≡ num 4 b (first_place form n i) ∷ drop (1 * suc i) (firsts_in b form n k ++ r) = sym c ∙ d ∙ rw row_one in
      ap (λ (l : List ℕ). get_or l 0 0) e

  pub mark_piece : (j : ℕ) → j ≤ k → num 4 b (first_place form n k) ≡ n - 1 → mark_at X j ≡ num 4 b (first_place form n j)
  mark_piece j h last = go (ltb j k) refl
    where
      half : length (words (2 * n) (drop 20 b)) / 2 ≡ n
      half = rw length-words (omega arith)

      go : (t : Bool) → ltb j k ≡ t → mark_at X j ≡ num 4 b (first_place form n j)
      go true t = first_get j _ (ltb-true j k t)
      go false t =
          let e : j ≡ k = omega (arith, ltb-false j k t) in
          let l : length (firsts_in b form n k) ≡ j = sized_packed.firsts ∙ sym e in
          let s : get_or (firsts_in b form n k ++ ((marks_in X - 1) ∷ [])) j 0 ≡ marks_in X - 1 = rw l at (get_or-append_seam (firsts_in b form n k) (marks_in X - 1) [] 0) in
          s ∙ rw (half, e) (sym last)

  pub fit-numbers : all_fit 1 b ≡ true → all_fit 8 X.curves ≡ true
  fit-numbers g = each-fit 8 k curve_in (λ i h. fit_both i)
    where
      fit_both : (i : ℕ) → all_fit 8 (curve_in i) ≡ true
      fit_both i = fit_append 8 (words 2 (drop (start_place form n i) b)) (words (rest_numbers form) (drop (rest_place form n i) b)) (fit_row 8 2 (drop (start_place form n i) b) (fit-drop 1 (start_place form n i) b g)) (fit_row 8 (rest_numbers form) (drop (rest_place form n i) b) (fit-drop 1 (rest_place form n i) b g))
