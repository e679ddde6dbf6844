-- Turns of the loops that copy what stands in each curve of a packed file. Assumes nothing.
use mathlib.Core.Path.{◌≡◌, refl, sym, ap, ◌∙◌}
use mathlib.Core.List.{List, [], ◌∷◌, ◌++◌}
use Prim.Native.Nat.{ℕ, ◌+◌, ◌-◌, ◌*◌, ◌<◌, ◌≤◌}
use native.Mathlib.Nat.{mul-zero}
use native.Mathlib.Numerals.{add-one}
use native.Mathlib.Omega.{arith}
use lib.ListN.{length, take, drop, set, length-append}
use Rattle.float.specs.Slices.{written}
use Rattle.form.specs.declared.Form.{Form}
use Rattle.form.specs.declared.Form.TheVariants.{Eight, Nine}
use Rattle.form.specs.Form.{width, worsts_for}
use Rattle.house.specs.Bytes.{num, words}
use Rattle.house.specs.File.{params_for}
use Rattle.house.proofs.Forms.{within}
use Rattle.house.proofs.Rows.{length-row, length-words}
use Rattle.house.proofs.Turns.{Front, same_front, front-suc, front_part}
use Rattle.grammar.proofs.Curves.{row_one}
use Rattle.grammar.proofs.Formed.{params_some}
use Rattle.packed.specs.Each.{each}
use Rattle.packed.specs.Packed.{rest_numbers, entry_bytes}
use Rattle.packed.specs.Unpacked.{entry_at, start_place, rest_place, worst_place, worsts_in, numbers_in}
use Rattle.packed.proofs.Each.{each-length}
use Rattle.packed.proofs.Sizes.{rest_is}
use Rattle.packed.proofs.Pieces.{mark, worsts-as}

-- a curve is within those of which it is one
pub inside : (form : Form) (n k i : ℕ) → i < k → entry_at form n i + entry_bytes form ≤ entry_at form n k
inside form n k i h = omega (arith, within (entry_bytes form) k i h)

-- nothing is copied yet
pub front_none : (l : List ℕ) (g : ℕ → List ℕ) → Front (each 0 g) l l 0
unfolding each
front_none l g = record { whole = refl; same = refl }

-- one piece more
each_next : (g : ℕ → List ℕ) (i : ℕ) → each (i + 1) g ≡ each i g ++ g i
unfolding each
each_next g i = rw (add-one i)

-- ---- mark numbers, at places that go by the curve

module _ (b : List ℕ) (place : ℕ → ℕ) where
  marks-length : (i : ℕ) → length (each i (mark b place)) ≡ i
  marks-length i = each-length 1 (mark b place) i (λ j s. length-row 4 1 (drop (place j) b)) ∙ omega arith

  -- one more
  pub marks-turn : (l m : List ℕ) (i : ℕ) {p x : ℕ} → x ≡ num 4 b p → p ≡ place i → i < length l → Front (each i (mark b place)) l m i → Front (each (i + 1) (mark b place)) l (set m i x) (i + 1)
  marks-turn l m i {p} {x} is at h f =
      let v : x ≡ num 4 b (place i) = is ∙ rw at in
      let e : each (i + 1) (mark b place) ≡ each i (mark b place) ++ (num 4 b (place i) ∷ []) = each_next (mark b place) i ∙ rw row_one in
      let w : set m i x ≡ each (i + 1) (mark b place) ++ drop (i + 1) l =
      rw (f.whole, v) (front-suc 0 (each i (mark b place)) l (num 4 b (place i)) i (marks-length i) h ∙ ap (λ (r : List ℕ). r ++ drop (i + 1) l) (sym e)) in
      same_front (each (i + 1) (mark b place)) l (set m i x) (i + 1) w (marks-length (i + 1)) (omega arith)

  -- all of them
  pub marks_all : (l m : List ℕ) (i k : ℕ) → i ≡ k → Front (each i (mark b place)) l m i → m ≡ written (each k (mark b place)) l
  marks_all l m i k q f = rw (marks-length k) (rw q at f.whole)

-- ---- worst marks: one for each curve, or none

-- all that are kept
pub worsts_all : (b : List ℕ) (form : Form) (n k : ℕ) (l m : List ℕ) (i : ℕ) → i ≡ worsts_for form k → Front (each i (mark b (worst_place form n))) l m i → m ≡ written (worsts_in b form n k) l
worsts_all b form n k l m i q f = marks_all b (worst_place form n) l m i (worsts_for form k) q f ∙ ap (λ (w : List ℕ). written w l) (worsts-as b form n k)

-- where a worst mark stands, as it is worked out
pub worst_at_is : (form : Form) (n i : ℕ) {e r : ℕ} → e ≡ entry_at form n i → r ≡ rest_numbers form → e + (4 + 8 * r) ≡ worst_place form n i
worst_at_is form n i at many = omega arith

-- a worst mark that is kept is within its curve
pub worst_within : (form : Form) (k i : ℕ) → i < worsts_for form k → 4 + 8 * rest_numbers form + 4 ≤ entry_bytes form
worst_within Eight k i h = absurd (omega arith)
worst_within Nine k i h = omega arith

-- ---- the numbers of curves

module _ (b : List ℕ) (form : Form) (n : ℕ) where
  abbrev pub numbers : ℕ → List ℕ
  numbers i = words 2 (drop (start_place form n i) b) ++ words (rest_numbers form) (drop (rest_place form n i) b)

  numbers-width : (i : ℕ) → length (numbers i) ≡ width form
  numbers-width i = simp (length-append, length-words) (rest_is form)

  numbers-length : (k : ℕ) → length (numbers_in b form n k) ≡ width form * k
  numbers-length k = each-length (width form) numbers k (λ i s. numbers-width i)

  -- before the first turn, and behind the last
  pub numbers_none : (l : List ℕ) → Front (numbers_in b form n 0) l l (width form * 0)
  numbers_none l = rw (mul-zero (width form)) (front_none l numbers)

  pub numbers_all : (l m : List ℕ) (i k : ℕ) → i ≡ k → Front (numbers_in b form n i) l m (width form * i) → m ≡ written (numbers_in b form n k) l
  numbers_all l m i k q f = rw (numbers-length k) (rw q at f.whole)

  -- a curve: its start, and the others in the part behind it, which was lent
  pub curve_is : (l m last : List ℕ) (i : ℕ) {p q r : ℕ} → m ≡ written (words 2 (drop p b)) l → last ≡ written (words r (drop q b)) (take (length m - 2) (drop 2 m))
      → p ≡ start_place form n i → q ≡ rest_place form n i → r ≡ rest_numbers form → 2 ≤ length m → take 2 m ++ (last ++ drop (length m - 2) (drop 2 m)) ≡ written (numbers i) l
  curve_is l m last i s t is at many h =
      let s' : m ≡ words 2 (drop (start_place form n i) b) ++ drop 2 l = s ∙ rw (is, length-words) in
      let t' : last ≡ written (words (rest_numbers form) (drop (rest_place form n i) b)) (take (length m - 2) (drop 2 m)) = t ∙ rw (many, at) in
      front_part (words 2 (drop (start_place form n i) b)) (words (rest_numbers form) (drop (rest_place form n i) b)) l m last 2 s' (length-words 2 (drop (start_place form n i) b)) h t'
      ∙ simp (length-append, length-words)

  -- one more curve, where the part from its place on was lent
  pub numbers-turn : (l m last : List ℕ) (i : ℕ) {w : ℕ} → w ≡ width form → width form * (i + 1) ≤ length l → Front (numbers_in b form n i) l m (width form * i)
      → last ≡ written (numbers i) (take (length m - w * i) (drop (w * i) m))
      → Front (numbers_in b form n (i + 1)) l (take (w * i) m ++ (last ++ drop (length m - w * i) (drop (w * i) m))) (width form * (i + 1))
  numbers-turn l m last i {w} is h f s =
      let s' : last ≡ written (numbers i) (take (length m - width form * i) (drop (width form * i) m)) = s ∙ rw is in
      let q : width form * i + width form ≡ width form * (i + 1) = omega arith in
      let e : take (width form * i) m ++ (last ++ drop (length m - width form * i) (drop (width form * i) m)) ≡ numbers_in b form n (i + 1) ++ drop (width form * (i + 1)) l =
      front_part (numbers_in b form n i) (numbers i) l m last (width form * i) f.whole (numbers-length i) (omega (arith, f.same)) s' ∙ rw (each_next numbers i, numbers-width i, q) in
      same_front (numbers_in b form n (i + 1)) l _ (width form * (i + 1)) (rw is e) (numbers-length (i + 1)) h

-- ---- the parameters, with their place as it was worked out

pub params_by : (b : List ℕ) (form : Form) (n k : ℕ) (Q : List ℕ) → 0 < k → {p : ℕ} {Q' : List ℕ} → Q' ≡ written (words n (drop (p + 6) b)) Q → p ≡ entry_at form n k → Q' ≡ written (words (params_for n k) (drop (entry_at form n k + 6) b)) Q
params_by b form n k Q h s is = rw (params_some n h) (rw is at s)
