-- How long a packed file is, by the lengths of the file's lists alone. Assumes nothing.
use mathlib.Core.Path.{◌≡◌, refl, ◌∙◌}
use mathlib.Core.Bool.{true}
use mathlib.Core.List.{List, [], ◌++◌, append-nil}
use Prim.Native.Nat.{ℕ, zero, suc, ◌+◌, ◌*◌, ◌/◌, ◌<◌, ◌≤◌, ◌^◌}
use native.Mathlib.Nat.{mul-zero}
use native.Mathlib.Omega.{arith}
use borrow.Author.Tests.{eq-eqb, ne_eqb, lt-ltb}
use lib.ListN.{length, take, drop, length-append, length-take, length-drop}
use lib.Seq.{length-take-le}
use Rattle.form.specs.declared.Form.{Form}
use Rattle.form.specs.declared.Form.TheVariants.{Eight, Nine}
use Rattle.form.specs.Form.{width, worsts_for}
use Rattle.house.specs.Limits.{worst_marks}
use Rattle.house.specs.Bytes.{le, les}
use Rattle.house.specs.File.{File, rec, framed, flat, curves_in}
use Rattle.house.proofs.Forms.{within}
use Rattle.house.proofs.Numbers.{length-le}
use Rattle.house.proofs.Rows.{length-bytes, length-les}
use Rattle.grammar.proofs.Records.{length-framed}
use Rattle.grammar.proofs.Formed.{Sized, params_some}
use Rattle.grammar.proofs.Whole.{length_start}
use Rattle.packed.specs.Each.{each}
use Rattle.packed.specs.Packed.{flag, rest_numbers, entry_bytes, start_at, end_at, rest_at, worst_at, entry_of, packed_body, packed_rest, packed_records, packed_bytes, short}
use Rattle.packed.specs.Unpacked.{entry_at}
use Rattle.packed.specs.Layout.{packed_size}
use Rattle.packed.proofs.Each.{each-length}

-- ---- forms

pub flag-few : (form : Form) → flag form < 256
flag-few Eight = omega arith
flag-few Nine = omega arith

pub rest-few : (form : Form) → rest_numbers form ≤ 7
rest-few Eight = omega arith
rest-few Nine = omega arith

pub entry_few : (form : Form) → entry_bytes form ≤ 64
entry_few Eight = omega arith
entry_few Nine = omega arith

pub curves-few : (form : Form) (k : ℕ) → entry_bytes form * k ≤ 64 * k
curves-few Eight k = omega arith
curves-few Nine k = omega arith

pub entry_some : (form : Form) → 52 ≤ entry_bytes form
entry_some Eight = omega arith
entry_some Nine = omega arith

-- a curve is its start and the rest
pub rest_is : (form : Form) → 2 + rest_numbers form ≡ width form
rest_is Eight = refl
rest_is Nine = refl

-- the end is among the numbers that are kept
pub rest_long : (form : Form) → 6 ≤ rest_numbers form
rest_long Eight = omega arith
rest_long Nine = omega arith

-- the numbers of a curve are within it
pub rest_within : (form : Form) → 4 + 8 * rest_numbers form ≤ entry_bytes form
rest_within Eight = omega arith
rest_within Nine = omega arith

-- curves, by what is left of a division
pub entries_of : (form : Form) (k x : ℕ) → x ≡ entry_bytes form * k → x / entry_bytes form ≡ k
entries_of Eight k x e = omega arith
entries_of Nine k x e = omega arith

pub entries_under : (form : Form) (x : ℕ) → entry_bytes form * (x / entry_bytes form) ≤ x
entries_under Eight x = omega arith
entries_under Nine x = omega arith

-- ---- the pieces of a curve

worst-length : (form : Form) (k i : ℕ) (W : List ℕ) → length W ≡ worsts_for form k → i < k → length (take (worst_marks form) (drop (worsts_for form i) W)) ≡ worst_marks form
worst-length Eight k i W l h = refl
worst-length Nine k i W l h = length-take-le 1 (drop i W) (simp length-drop (omega arith))

module _ {F : File} {n k : ℕ} (s : Sized F n k) where
  -- so many numbers from place p of curve i on are there
  part_length : (i p m : ℕ) → i < k → p + m ≤ width F.form → length (take m (drop (width F.form * i + p) F.curves)) ≡ m
  part_length i p m h l = length-take-le m (drop (width F.form * i + p) F.curves) (simp length-drop (omega (arith, s.curves, within (width F.form) k i h)))

  pub rest-length : (i : ℕ) → i < k → length (rest_at F i) ≡ rest_numbers F.form
  rest-length i h = part_length i 2 (rest_numbers F.form) h (omega (arith, rest_is F.form))

  pub end_length : (i : ℕ) → i < k → length (end_at F i) ≡ 2
  end_length i h = part_length i 6 2 h (omega (arith, rest_is F.form, rest_long F.form))

  pub start_length : (i : ℕ) → i < k → length (start_at F i) ≡ 2
  start_length i h = length-take-le 2 (drop (width F.form * i) F.curves) (simp length-drop (omega (arith, s.curves, within (width F.form) k i h, rest_is F.form)))

  pub worsts-length : (i : ℕ) → i < k → length (worst_at F i) ≡ worst_marks F.form
  worsts-length i h = worst-length F.form k i F.worsts s.worsts h

  pub entry_length : (i : ℕ) → i < k → length (entry_of F i) ≡ entry_bytes F.form
  entry_length i h =
      let r : length (rest_at F i) ≡ rest_numbers F.form = rest-length i h in
      let w : length (worst_at F i) ≡ worst_marks F.form = worsts-length i h in
      simp (length-append, length-le, length-bytes, r, w) (omega arith)

  pub entries_length : length (each (curves_in F) (entry_of F)) ≡ entry_bytes F.form * k
  entries_length = rw s.firsts (each-length (entry_bytes F.form) (entry_of F) k entry_length)

  -- ---- the record, and the whole

  pub body-length : 0 < k → length (packed_body F) ≡ 21 + entry_bytes F.form * k
  body-length h =
      let a : length (start_at F 0) ≡ 2 = start_length 0 h in
      simp (length-append, length-le, length-bytes, a, entries_length) (omega arith)

  pub short_none : k ≡ 0 → short F ≡ true
  short_none e =
      let a : length (start_at F 0) ≤ 2 = simp length-take (omega arith) in
      let z : entry_bytes F.form * k ≡ 0 = rw e (mul-zero (entry_bytes F.form)) in
      let l : 2 + length (packed_body F) < 256 ^ 4 = simp (length-append, length-le, length-bytes, entries_length) (omega arith) in
      lt-ltb _ _ l

  pub packed_none : k ≡ 0 → flat (packed_rest F) ≡ []
  unfolding flat
  packed_none e = rw (s.firsts, eq-eqb k 0 e)

  pub packed_some : 0 < k → flat (packed_rest F) ≡ framed (rec 8 (packed_body F)) ++ framed (rec 4 (les F.params))
  unfolding flat
  packed_some h = rw (s.firsts, ne_eqb k 0 (λ e. omega arith), append-nil)

pub packed_are : (F : File) → packed_bytes F ≡ framed (rec 1 (le 8 F.tolerance)) ++ (framed (rec 2 (les F.marks)) ++ flat (packed_rest F))
unfolding flat packed_records
packed_are F = refl

-- how many bytes: with no curves, and with some
pub packed_size_none : (form : Form) (n : ℕ) {k : ℕ} → k ≡ 0 → packed_size form n k ≡ 20 + 16 * n
packed_size_none form n {k} e = rw (eq-eqb k 0 e)

pub packed_size_some : (form : Form) (n : ℕ) {k : ℕ} → 0 < k → packed_size form n k ≡ entry_at form n k + 6 + 8 * n
packed_size_some form n {k} h = rw (ne_eqb k 0 (λ e. omega arith))

pub packed_length_is : {F : File} {n k : ℕ} → Sized F n k → length (packed_bytes F) ≡ packed_size F.form n k
packed_length_is {F} {n} {k} s = rw (packed_are F, length_start F.tolerance n F.marks (flat (packed_rest F)) s.marks) (go k s)
  where
    go : (k : ℕ) → Sized F n k → 20 + 16 * n + length (flat (packed_rest F)) ≡ packed_size F.form n k
    go zero s = rw (packed_none s refl) (omega arith)
    go (suc k) s =
        let some : 0 < suc k = omega arith in
        let q : length F.params ≡ n = s.params ∙ params_some n some in
        let b : length (framed (rec 8 (packed_body F))) ≡ 6 + (21 + entry_bytes F.form * suc k) = length-framed 8 (packed_body F) ∙ rw (body-length s some) in
        let p : length (framed (rec 4 (les F.params))) ≡ 6 + 8 * n = length-framed 4 (les F.params) ∙ rw (length-les, q) in
        rw (packed_some s some, length-append, b, p, packed_size_some F.form n some) (omega arith)
