-- The marks of a file from number i on: what becomes of mark i, and of those behind it. Assumes nothing.
use Prim.Native.Nat.{ℕ, suc, ◌+◌, ◌-◌, ◌*◌, ◌<◌, ◌≤◌}
use mathlib.Core.Path.{◌≡◌, refl, ap, ◌∙◌}
use mathlib.Core.Bool.{true}
use mathlib.Core.List.{List, [], ◌∷◌, ◌++◌}
use native.Mathlib.Numerals.{add-one}
use native.Mathlib.Omega.{arith}
use lib.ListN.{length, take, drop, length-append}
use lib.Seq.{drop-drop, sets}
use Rattle.plane.specs.declared.Point.{Point}
use Rattle.text.specs.Put.{Put}
use Rattle.text.proofs.Stores.{one}
use Rattle.house.specs.Bytes.{num, row, words, row_bytes, les, all_fit}
use Rattle.house.proofs.Rows.{length-words, length-les, bytes_append, bytes_there}
use Rattle.sieve.specs.declared.Fate.{Fate}
use Rattle.sieve.specs.declared.Fate.TheVariants.{Kept, Dropped}
use Rattle.std.proofs.Common.{Option, None}
use Rattle.sieve.specs.Sieve.{mark, fate_of, after, fates, kept_by, kept_in, drop_by, drops_from, kept_of, drops_of}
use Rattle.salvaging.specs.Report.{drop_lines}
use Rattle.salvaging.specs.declared.walks.Part.{Part}
use Rattle.salvaging.specs.declared.walks.Part.TheVariants.{Marks, Lines}
use Rattle.salvaging.specs.Layout.{marks_of, mark_of, piece_of, mark_length, piece_length, part_of}
use Rattle.salvaging.proofs.Lengths.{lines_append}

-- the marks from number i on
abbrev pub rest : List ℕ → ℕ → ℕ → List ℕ
rest b n i = words (2 * (n - i)) (drop (20 + 16 * i) b)

-- what is left to put for them
abbrev pub left_of : Part → List ℕ → ℕ → Option Point → ℕ → List ℕ
left_of Marks b n last i = les (kept_in (fates last (rest b n i)) (rest b n i))
left_of Lines b n last i = drop_lines (drops_from i (fates last (rest b n i)))

module _ (b : List ℕ) (n : ℕ) where
  pub rest_all : rest b n 0 ≡ marks_of b n
  rest_all = let e : 2 * (n - 0) ≡ 2 * n = omega arith in rw e

  pub rest_none : (i : ℕ) → i ≡ n → rest b n i ≡ []
  unfolding row
  rest_none i e = let z : 2 * (n - i) ≡ 0 = omega arith in rw z

  -- all of it, at first, and nothing at the end
  pub left_all : (part : Part) → left_of part b n None 0 ≡ part_of part b n
  left_all Marks = ap (λ (M : List ℕ). les (kept_of M)) rest_all
  left_all Lines = ap (λ (M : List ℕ). drop_lines (drops_of M)) rest_all

  pub left_none : (part : Part) (last : Option Point) (i : ℕ) → i ≡ n → left_of part b n last i ≡ []
  unfolding fates kept_in row_bytes drops_from drop_lines
  left_none Marks last i e = rw (rest_none i e)
  left_none Lines last i e = rw (rest_none i e)

  module _ (i : ℕ) where
    abbrev x : ℕ
    x = num 8 b (20 + 16 * i)

    abbrev y : ℕ
    y = num 8 b (20 + 16 * i + 8)

    pub here : words 2 (drop (20 + 16 * i) b) ≡ x ∷ (y ∷ [])
    unfolding row
    here = rw drop-drop

    pub rest_more : i < n → rest b n i ≡ x ∷ (y ∷ rest b n (i + 1))
    unfolding row
    rest_more h =
        let e : 2 * (n - i) ≡ suc (suc (2 * (n - (i + 1)))) = omega arith in
        let d : 20 + 16 * i + 8 + 8 ≡ 20 + 16 * (i + 1) = omega arith in
        rw (e, drop-drop, drop-drop, d)

    module _ (last : Option Point) (h : i < n) {p : Point} {f : Fate} {last' : Option Point} (ep : p ≡ mark x y) (ef : f ≡ fate_of last p) (el : last' ≡ after last p f) where
      kept_more : kept_in (fates last (rest b n i)) (rest b n i) ≡ kept_by f (mark_of b i) ++ kept_in (fates last' (rest b n (i + 1))) (rest b n (i + 1))
      unfolding fates kept_in
      kept_more = rw (rest_more h, here, el, ef, ep)

      drops_more : drops_from i (fates last (rest b n i)) ≡ drop_by i f ++ drops_from (i + 1) (fates last' (rest b n (i + 1)))
      unfolding fates drops_from
      drops_more = rw (rest_more h, el, ef, ep, add-one i)

      pub left_more : (part : Part) → left_of part b n last i ≡ piece_of part b i f ++ left_of part b n last' (i + 1)
      left_more Marks = ap les kept_more ∙ bytes_append 8 (kept_by f (mark_of b i)) (kept_in (fates last' (rest b n (i + 1))) (rest b n (i + 1)))
      left_more Lines = ap drop_lines drops_more ∙ lines_append (drop_by i f) (drops_from (i + 1) (fates last' (rest b n (i + 1))))

      pub left_count : (part : Part) → length (left_of part b n last i) ≡ length (piece_of part b i f) + length (left_of part b n last' (i + 1))
      left_count part = ap length (left_more part) ∙ length-append (piece_of part b i f) (left_of part b n last' (i + 1))

-- how long a piece is
pub piece_length_is : (part : Part) (b : List ℕ) (i : ℕ) (f : Fate) → length (piece_of part b i f) ≡ piece_length part i f
unfolding row_bytes
piece_length_is Marks b i Kept = length-les (mark_of b i) ∙ ap (λ (n : ℕ). 8 * n) (length-words 2 (drop (20 + 16 * i) b))
piece_length_is Marks b i (Dropped c) = refl
piece_length_is Lines b i f = refl

pub kept-length : (b : List ℕ) (i : ℕ) {f : Fate} → f ≡ Kept → length (piece_of Marks b i f) ≡ 16
kept-length b i {f} e = piece_length_is Marks b i f ∙ ap mark_length e

-- mark i as it stands in the file
module _ (b : List ℕ) (i : ℕ) (bytes : all_fit 1 b ≡ true) (h : 20 + 16 * i + 16 ≤ length b) where
  abbrev place : ℕ
  place = 20 + 16 * i

  pub mark-put : (k : ℕ) {l m : List ℕ} {at r : ℕ} {f : Fate} → f ≡ Kept → k ≡ 16 → (r ≡ at + length (take k (drop place b))) × (m ≡ sets l at (take k (drop place b))) → Put l at (piece_of Marks b i f) m r
  mark-put k {l} {m} {at} {r} e ek p =
      let t : take k (drop place b) ≡ les (words 2 (drop place b)) = ap (λ (n : ℕ). take n (drop place b)) ek ∙ bytes_there b place 2 bytes h in
      rw (e, ← t) (one l at (take k (drop place b)) p)
