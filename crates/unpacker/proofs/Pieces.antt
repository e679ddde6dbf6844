-- The record of a curve, of what stands in a packed file: its parts as they are put, and how long it is. Assumes nothing.
use mathlib.Core.Path.{◌≡◌, sym, ap, ap₂, ◌∙◌}
use mathlib.Core.Bool.{true}
use mathlib.Core.List.{List, ◌++◌, append-nil}
use Prim.Native.Nat.{ℕ, ◌+◌, ◌*◌, ◌≤◌}
use native.Mathlib.Numerals.{add-one}
use native.Mathlib.Omega.{arith}
use lib.ListN.{length, take, drop, length-append}
use lib.Seq.{take_all, sets}
use Rattle.text.proofs.Stores.{sets_append}
use Rattle.form.specs.declared.Form.{Form}
use Rattle.form.specs.declared.Form.TheVariants.{Eight, Nine}
use Rattle.form.specs.Form.{width}
use Rattle.house.specs.declared.sizes.Field.{Field}
use Rattle.house.specs.Limits.{mark_field, worst_marks, beside_bytes, curve_kind, body_bytes, curve_bytes}
use Rattle.house.specs.Bytes.{le, num, row, row_bytes, words, les, all_fit}
use Rattle.house.specs.File.{body_of}
use Rattle.house.proofs.Rows.{length-row, length-words, length-les, bytes_append, bytes_there}
use Rattle.house.proofs.Turns.{put_both}
use Rattle.grammar.proofs.Records.{length-framed}
use Rattle.grammar.proofs.Curves.{length-body, curve-put}
use Rattle.packed.specs.Each.{each}
use Rattle.packed.specs.Unpacked.{entry_at, worst_place}
use Rattle.packed.proofs.Sizes.{rest_is}
use Rattle.packed.proofs.Each.{each-length}
use Rattle.unpacker.specs.Records.{first_here, worst_here, numbers_here, record_here}

-- ---- mark numbers: the first mark alone, or the worst mark too

module _ (f : ℕ) (l : List ℕ) (at p : ℕ) (b : List ℕ) (form : Form) (n i : ℕ) where
  pub beside_one : form ≡ Eight → sets l at (le f p) ≡ sets l at (le f p ++ row_bytes f (worst_here b form n i))
  unfolding row row_bytes
  beside_one e = rw (e, append-nil)

  pub beside_two : form ≡ Nine → sets (sets l at (le f p)) (at + f) (le f (num 4 b (worst_place form n i))) ≡ sets l at (le f p ++ row_bytes f (worst_here b form n i))
  unfolding row row_bytes
  beside_two e = put_both l at f f p (num 4 b (worst_place form n i)) ∙ rw (e, append-nil)

-- the worst mark is within the curve
pub worst_within : (form : Form) (n i : ℕ) → form ≡ Nine → worst_place form n i + 4 ≤ entry_at form n (i + 1)
worst_within form n i e = rw e (omega arith)

-- ---- numbers

-- the start and the rest, one behind the other
pub numbers-put : (l : List ℕ) (at : ℕ) (b : List ℕ) (p q m : ℕ) → all_fit 1 b ≡ true → p + 16 ≤ length b → q + 8 * m ≤ length b
    → sets (sets l at (take 16 (drop p b))) (at + 16) (take (8 * m) (drop q b)) ≡ sets l at (les (words 2 (drop p b) ++ words m (drop q b)))
numbers-put l at b p q m g hp hq =
    let s : List ℕ = les (words 2 (drop p b)) in
    let r : List ℕ = les (words m (drop q b)) in
    let es : take 16 (drop p b) ≡ s = bytes_there b p 2 g hp in
    let er : take (8 * m) (drop q b) ≡ r = bytes_there b q m g hq in
    let z : length s ≡ 16 = length-les (words 2 (drop p b)) ∙ rw length-words in
    let a : sets l at (s ++ r) ≡ sets (sets l at s) (at + 16) r = sets_append s r l at ∙ rw z in
    rw (es, er, bytes_append) (sym a)

-- ---- the record

module _ (b : List ℕ) (form : Form) (n i : ℕ) where
  length-worst : length (worst_here b form n i) ≡ worst_marks form
  length-worst = length-row 4 (worst_marks form) (drop (worst_place form n i) b)

  pub length-numbers : length (numbers_here b form n i) ≡ width form
  length-numbers = simp (length-append, length-words) (rest_is form)

  module _ (field : Field) where
    pub record-length : length (record_here b form field n i) ≡ curve_bytes form field
    unfolding record_here
    record-length =
        let z : length (body_of form field (first_here b form n i) (worst_here b form n i) (numbers_here b form n i)) ≡ body_bytes form field = length-body form field (first_here b form n i) (worst_here b form n i) (numbers_here b form n i) (omega (arith, length-worst)) (omega (arith, length-numbers)) in
        length-framed (curve_kind form field) (body_of form field (first_here b form n i) (worst_here b form n i) (numbers_here b form n i)) ∙ ap (λ (x : ℕ). 6 + x) z

    -- head, mark numbers, numbers
    pub record-put : (l : List ℕ) (at : ℕ)
        → sets (sets (sets l at (le 4 (2 + body_bytes form field) ++ le 2 (curve_kind form field))) (at + 6) (le (mark_field field) (first_here b form n i) ++ row_bytes (mark_field field) (worst_here b form n i))) (at + 6 + beside_bytes form field) (les (numbers_here b form n i))
        ≡ sets l at (record_here b form field n i)
    unfolding record_here
    record-put l at =
        let w : take (worst_marks form) (worst_here b form n i) ≡ worst_here b form n i = take_all (worst_marks form) (worst_here b form n i) (omega (arith, length-worst)) in
        let c : take (width form) (numbers_here b form n i) ≡ numbers_here b form n i = take_all (width form) (numbers_here b form n i) (omega (arith, length-numbers)) in
        ap₂ (λ (v u : List ℕ). sets (sets (sets l at (le 4 (2 + body_bytes form field) ++ le 2 (curve_kind form field))) (at + 6) (le (mark_field field) (first_here b form n i) ++ row_bytes (mark_field field) v)) (at + 6 + beside_bytes form field) (les u)) (sym w) (sym c)
        ∙ curve-put form field l at (first_here b form n i) (worst_here b form n i) (numbers_here b form n i) (omega (arith, length-worst)) (omega (arith, length-numbers))

-- one record more
pub records_put : (b : List ℕ) (form : Form) (field : Field) (n : ℕ) (l : List ℕ) (at i : ℕ)
    → sets (sets l at (each i (record_here b form field n))) (at + curve_bytes form field * i) (record_here b form field n i) ≡ sets l at (each (i + 1) (record_here b form field n))
unfolding each
records_put b form field n l at i =
    let rs : List ℕ = each i (record_here b form field n) in
    let z : length rs ≡ curve_bytes form field * i = each-length (curve_bytes form field) (record_here b form field n) i (λ j h. record-length b form n j field) in
    let s : sets l at (rs ++ record_here b form field n i) ≡ sets (sets l at rs) (at + curve_bytes form field * i) (record_here b form field n i) = sets_append rs (record_here b form field n i) l at ∙ rw z in
    rw add-one (sym s)
