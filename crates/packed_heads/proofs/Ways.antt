-- What each way through the search for a packed layout answers. Assumes nothing.
use mathlib.Core.Path.{◌≡◌, refl, sym, ap, ◌∙◌}
use mathlib.Core.Bool.{Bool, true, false, ◌&&◌}
use mathlib.Core.List.{List, [], ◌∷◌, ◌++◌}
use Prim.Native.Nat.{ℕ, zero, suc, ◌+◌, ◌-◌, ◌*◌, ◌/◌, ◌<◌, ◌≤◌}
use native.Mathlib.Nat.{mul-zero}
use native.Mathlib.Omega.{arith}
use borrow.Author.Tests.{eq-eqb, lt-ltb}
use lib.ListN.{length, drop}
use Rattle.float.proofs.Truth.{both, not_so, and_assoc}
use Rattle.form.specs.declared.Form.{Form}
use Rattle.form.specs.declared.Form.TheVariants.{Eight, Nine}
use Rattle.form.specs.Form.{worsts_for}
use Rattle.house.specs.declared.sizes.Field.{Field}
use Rattle.house.specs.Limits.{field_for, mark_field}
use Rattle.house.specs.Bytes.{fits, all_fit, row}
use Rattle.house.specs.Held.{marks_held}
use Rattle.house.specs.Layout.{head_at}
use Rattle.grammar.proofs.Records.{head_in}
use Rattle.std.proofs.Common.{Some, None}
use Rattle.heads.proofs.Ways.{found}
use Rattle.packed.specs.Each.{each}
use Rattle.packed.specs.Packed.{entry_bytes, rest_numbers}
use Rattle.packed.specs.Unpacked.{entry_at, first_place, worst_place, firsts_in, worsts_in, packed_form, packed_curves, is_packed}
use Rattle.packed.specs.Layout.{leads_packed, marks_packed, ends_packed}
use Rattle.packed.proofs.Each.{each_same, each_first}
use Rattle.packed.proofs.Pieces.{mark, worsts-as}
use Rattle.packed.proofs.Laid.{joined, PackedLaid, packed_marks, packed_form_is, packed_curves_is}
use Rattle.packed.proofs.Candidate.{laid_packed, packed_laid}
use Rattle.packed_heads.specs.Layout.{packed_layout_of}

-- ---- mark numbers that fit, in two parts

fit-join : (f : ℕ) (xs ys : List ℕ) → all_fit f (xs ++ ys) ≡ all_fit f xs && all_fit f ys
unfolding all_fit
fit-join f [] ys = refl
fit-join f (x ∷ xs) ys = ap (λ (b : Bool). fits f x && b) (fit-join f xs ys) ∙ sym (and_assoc (fits f x) (all_fit f xs) (all_fit f ys))

module _ (f : ℕ) (b : List ℕ) (form : Form) (n : ℕ) where
  -- the numbers of so many marks from a place on
  abbrev from : ℕ → ℕ → Bool
  from p k = all_fit f (each k (λ (i : ℕ). row 4 1 (drop (p + entry_bytes form * i) b)))

  -- the first of the first curve, and those that other curves have as their next
  pub firsts-fit : (k : ℕ) {p q : ℕ} → 0 < k → p ≡ first_place form n 0 → q ≡ entry_at form n 0 → all_fit f (firsts_in b form n k) ≡ from p 1 && from q (k - 1)
  unfolding each
  firsts-fit zero h ep eq = absurd (omega arith)
  firsts-fit (suc k) {p} {q} h ep eq =
      let z : suc k - 1 ≡ k = omega arith in
      let a : p + entry_bytes form * 0 ≡ first_place form n 0 = omega (arith, mul-zero (entry_bytes form)) in
      let g : (i : ℕ) → i < k → row 4 1 (drop (first_place form n (suc i)) b) ≡ row 4 1 (drop (q + entry_bytes form * i) b) =
      λ i l. let e : q + entry_bytes form * i ≡ entry_at form n i = omega (arith, mul-zero (entry_bytes form)) in rw e in
      ap (all_fit f) (each_first k (λ (i : ℕ). row 4 1 (drop (first_place form n i) b)))
      ∙ fit-join f (row 4 1 (drop (first_place form n 0) b)) (each k (λ (i : ℕ). row 4 1 (drop (first_place form n (suc i)) b)))
      ∙ rw (a, z) (ap (λ (l : List ℕ). all_fit f (row 4 1 (drop (first_place form n 0) b)) && all_fit f l) (each_same k _ (λ (i : ℕ). row 4 1 (drop (q + entry_bytes form * i) b)) g))

  pub worsts-fit : (k : ℕ) {p m : ℕ} → p ≡ worst_place form n 0 → m ≡ worsts_for form k → all_fit f (worsts_in b form n k) ≡ from p m
  worsts-fit k {p} {m} ep em =
      let g : (i : ℕ) → i < worsts_for form k → mark b (worst_place form n) i ≡ row 4 1 (drop (p + entry_bytes form * i) b) =
      λ i l. let e : p + entry_bytes form * i ≡ worst_place form n i = omega (arith, mul-zero (entry_bytes form)) in rw e in
      rw em (ap (all_fit f) (sym (worsts-as b form n k) ∙ each_same (worsts_for form k) _ (λ (i : ℕ). row 4 1 (drop (p + entry_bytes form * i) b)) g))

-- the tests of mark numbers, with the sizes and places as they were worked out
module _ (b : List ℕ) (form : Form) (n k : ℕ) {field : Field} {step first : ℕ} (ef : field ≡ field_for n) (es : step ≡ entry_bytes form) (e1 : first ≡ first_place form n 0) (some : 0 < k) where
  abbrev test : ℕ → ℕ → Bool
  test p m = all_fit (mark_field field) (each m (λ (i : ℕ). row 4 1 (drop (p + step * i) b)))

  abbrev all : Bool
  all = all_fit (mark_field (field_for n)) (firsts_in b form n k) && all_fit (mark_field (field_for n)) (worsts_in b form n k)

  pub first_unfit : test first 1 ≡ false → false ≡ all
  first_unfit a =
      let a' : from (mark_field (field_for n)) b form n first 1 ≡ false = rw (ef, es) at a in
      rw (firsts-fit (mark_field (field_for n)) b form n k {q = entry_at form n 0} some e1 refl, a') refl

  module _ {at : ℕ} (e2 : at ≡ entry_at form n 0) (a : test first 1 ≡ true) where
    pub next_unfit : test at (k - 1) ≡ false → false ≡ all
    next_unfit c =
        let a' : from (mark_field (field_for n)) b form n first 1 ≡ true = rw (ef, es) at a in
        let c' : from (mark_field (field_for n)) b form n at (k - 1) ≡ false = rw (ef, es) at c in
        rw (firsts-fit (mark_field (field_for n)) b form n k some e1 e2, a', c') refl

    pub numbers_by : {w m : ℕ} {r : Bool} → w ≡ worst_place form n 0 → m ≡ worsts_for form k → test at (k - 1) ≡ true → r ≡ test w m → r ≡ all
    numbers_by ew em c h =
        let a' : from (mark_field (field_for n)) b form n first 1 ≡ true = rw (ef, es) at a in
        let c' : from (mark_field (field_for n)) b form n at (k - 1) ≡ true = rw (ef, es) at c in
        let h' = rw (ef, es) at h in
        rw (firsts-fit (mark_field (field_for n)) b form n k some e1 e2, a', c', worsts-fit (mark_field (field_for n)) b form n k ew em) h'

-- ---- the layout

pub packed_counted : (b : List ℕ) {form : Form} {n k : ℕ} → all_fit 1 b ≡ true → PackedLaid b form n k → Some (found form n k) ≡ packed_layout_of b
unfolding packed_layout_of
packed_counted b g l = rw (laid_packed g l, packed_marks l, packed_form_is l, packed_curves_is l)

pub packed_broken : (b : List ℕ) (form : Form) (n k : ℕ) → marks_held b ≡ n → packed_form b n ≡ form → packed_curves b form n ≡ k → (PackedLaid b form n k → ⊥) → None ≡ packed_layout_of b
unfolding packed_layout_of
packed_broken b form n k en ef ek never = rw (not_so (is_packed b) (λ h. never (rw (en, ef, ek) at (packed_laid h))))

-- ---- the tests at the end

module _ (b : List ℕ) (form : Form) (n k : ℕ) where
  pub ends_by : {last : ℕ} {r : Bool} → last ≡ entry_at form n k → length b ≡ last + 6 + 8 * n → 0 < k → k < n → leads_packed b form n k ≡ true → marks_packed b form n k ≡ true → r ≡ head_at b last (2 + 8 * n) 4 → r ≡ ends_packed b form n k
  unfolding ends_packed
  ends_by {last} {r} el z some few l m h =
      let z' : length b ≡ entry_at form n k + 6 + 8 * n = rw el at z in
      h ∙ rw (el, eq-eqb _ _ z', lt-ltb 0 k some, lt-ltb k n few, l, m) refl

  pub ends_leads : ends_packed b form n k ≡ true → leads_packed b form n k ≡ true
  ends_leads h = let j = joined b form n k h in both _ _ (head_in b (20 + 16 * n) (2 + (21 + entry_bytes form * k)) 8 j.head8) (eq-eqb _ _ j.flag_is)

  pub ends-marks : ends_packed b form n k ≡ true → marks_packed b form n k ≡ true
  ends-marks h = let j = joined b form n k h in both _ _ (eq-eqb _ _ j.last_is) (both _ _ j.firsts j.worsts)

-- the worst marks of k curves are within them
pub worsts-room : (form : Form) (n k : ℕ) {len step at r m : ℕ} → 0 < k → entry_at form n k ≤ len → step ≡ entry_bytes form → at ≡ entry_at form n 0 → r ≡ rest_numbers form → m ≡ worsts_for form k → at + 4 + 8 * r + step * m + 4 ≤ len + step
worsts-room Eight n k {len} {step} {at} {r} {m} some h es ea er em = let z : step * m ≡ 0 = rw em (mul-zero step) in omega arith
worsts-room Nine n k {len} {step} {at} {r} {m} some h es ea er em = let z : step * m ≡ 64 * k = rw (es, em) in omega arith

-- the curves, with the size of one as it was worked out
pub counted_by : (b : List ℕ) (form : Form) (n : ℕ) {e : ℕ} → e ≡ entry_bytes form → packed_curves b form n ≡ (length b - (20 + 16 * n + 6 + 21 + 6 + 8 * n)) / e
counted_by b form n ee =
    let z : entry_at form n 0 + 6 + 8 * n ≡ 20 + 16 * n + 6 + 21 + 6 + 8 * n = omega (arith, mul-zero (entry_bytes form)) in
    rw (ee, z) refl
