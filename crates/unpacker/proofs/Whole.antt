-- The whole file: what is as it stands, and the records between. Assumes nothing.
use mathlib.Core.Path.{◌≡◌, refl, sym, ◌∙◌}
use mathlib.Core.List.{List, [], ◌++◌, append_assoc}
use Prim.Native.Nat.{ℕ, zero, suc, ◌+◌, ◌*◌, ◌<◌, ◌≤◌, ◌^◌}
use native.Mathlib.Omega.{arith}
use lib.ListN.{length, take, drop, length-append}
use lib.Seq.{take_at, drop_at, sets}
use Rattle.float.specs.Slices.{written}
use Rattle.text.proofs.Stores.{sets_append, written-sets}
use Rattle.form.specs.declared.Form.{Form}
use Rattle.form.specs.declared.Form.TheVariants.{Eight, Nine}
use Rattle.form.specs.Form.{width}
use Rattle.house.specs.declared.sizes.Field.{Field}
use Rattle.house.specs.declared.sizes.Field.TheVariants.{Two, Four}
use Rattle.house.specs.Limits.{field_for, worst_marks, curve_bytes}
use Rattle.house.specs.Bytes.{le, les}
use Rattle.house.specs.File.{File, rec, framed, flat, curve_records, bytes_of, field_in}
use Rattle.house.specs.Held.{params_at}
use Rattle.house.specs.Layout.{size_for}
use Rattle.house.proofs.Forms.{worsts-each}
use Rattle.house.proofs.Numbers.{length-le}
use Rattle.house.proofs.Rows.{length-les}
use Rattle.grammar.proofs.Records.{length-framed}
use Rattle.grammar.proofs.Curves.{row_one, curves_snoc}
use Rattle.grammar.proofs.Formed.{Sized, field_is}
use Rattle.grammar.proofs.Whole.{bytes_are, rest_none, rest_some, length_records, length-bytes}
use Rattle.packed.specs.Each.{each}
use Rattle.packed.specs.Packed.{entry_bytes, packed_body, packed_bytes}
use Rattle.packed.specs.Unpacked.{entry_at, firsts_in, worsts_in, numbers_in, packed_at}
use Rattle.packed.proofs.Pieces.{sized_packed}
use Rattle.packed.proofs.Sizes.{packed_are, packed_none, packed_some, packed_size_some, packed_length_is, body-length}
use Rattle.unpacker.specs.Records.{record_here}

module _ (b : List ℕ) (form : Form) (n : ℕ) where
  -- the records of its curves
  records_are : (field : Field) (k : ℕ) → each k (record_here b form field n) ≡ flat (curve_records form field (firsts_in b form n k) (worsts_in b form n k) (numbers_in b form n k))
  unfolding each flat curve_records record_here
  records_are field zero = refl
  records_are field (suc k) =
      let s = sized_packed b form n k in
      let p : length (firsts_in b form n k) ≡ k = s.firsts in
      let w : length (worsts_in b form n k) ≡ worst_marks form * length (firsts_in b form n k) = rw p (s.worsts ∙ worsts-each form k) in
      let c : length (numbers_in b form n k) ≡ width form * length (firsts_in b form n k) = rw p s.curves in
      rw (records_are field k, row_one) (sym (curves_snoc form field (firsts_in b form n k) (worsts_in b form n k) (numbers_in b form n k) _ _ _ w c))

-- ---- the whole, in pieces

module _ {F : File} {n k : ℕ} (s : Sized F n k) (some : 0 < k) where
  abbrev start : List ℕ
  start = framed (rec 1 (le 8 F.tolerance)) ++ framed (rec 2 (les F.marks))

  abbrev curves : List ℕ
  curves = flat (curve_records F.form (field_for n) F.firsts F.worsts F.curves)

  abbrev last : List ℕ
  last = framed (rec 4 (les F.params))

  length_front : length start ≡ 20 + 16 * n
  length_front = simp (length-append, length-le, length-les, s.marks) (omega arith)

  packed_is : packed_bytes F ≡ start ++ (framed (rec 8 (packed_body F)) ++ last)
  packed_is = packed_are F ∙ rw (packed_some s some) (sym (append_assoc (framed (rec 1 (le 8 F.tolerance))) (framed (rec 2 (les F.marks))) (framed (rec 8 (packed_body F)) ++ last)))

  bytes_is : bytes_of F ≡ (start ++ curves) ++ last
  bytes_is = bytes_are F ∙ rw (field_is s, rest_some F.form (field_for n) F.firsts F.worsts F.curves F.params (rw s.firsts some)) (simp append_assoc)

  module _ {b : List ℕ} (e : packed_bytes F ≡ b) where
    -- kinds 1 and 2, and kind 4, as they stand
    start_kept : take (20 + 16 * n) b ≡ start
    start_kept = rw (← e, packed_is) (take_at start (framed (rec 8 (packed_body F)) ++ last) (20 + 16 * n) length_front)

    last_kept : drop (entry_at F.form n k) b ≡ last
    last_kept =
        let z : length (start ++ framed (rec 8 (packed_body F))) ≡ entry_at F.form n k =
        length-append start (framed (rec 8 (packed_body F))) ∙ rw (length_front, length-framed 8 (packed_body F), body-length s some) (omega arith) in
        let t : packed_bytes F ≡ (start ++ framed (rec 8 (packed_body F))) ++ last = packed_is ∙ sym (append_assoc start (framed (rec 8 (packed_body F))) last) in
        rw (← e, t) (drop_at (start ++ framed (rec 8 (packed_body F))) last (entry_at F.form n k) z)

    -- so many bytes
    packed_whole : length b ≡ entry_at F.form n k + 6 + 8 * n
    packed_whole = rw (← e) (packed_length_is s ∙ packed_size_some F.form n some)

    -- put one behind the other
    put_whole : (O : List ℕ) → size_for F.form n k ≤ length O
        → sets (sets (sets O 0 (take (20 + 16 * n) b)) (20 + 16 * n) curves) (20 + 16 * n + curve_bytes F.form (field_for n) * k) (drop (entry_at F.form n k) b) ≡ written (bytes_of F) O
    put_whole O h =
        let c : length curves ≡ curve_bytes F.form (field_for n) * k = length_records (field_for n) s in
        let p1 : 0 + length start ≡ 20 + 16 * n = omega (arith, length_front) in
        let p2 : 0 + length (start ++ curves) ≡ 20 + 16 * n + curve_bytes F.form (field_for n) * k = simp (length-append start curves, length_front, c) (omega arith) in
        let s1 = sets_append start curves O 0 in
        let s2 = sets_append (start ++ curves) last O 0 in
        let w : sets O 0 ((start ++ curves) ++ last) ≡ written (bytes_of F) O = rw (← bytes_is) (written-sets (bytes_of F) O (omega (arith, length-bytes s))) in
        rw (start_kept, last_kept) (sym (rw (p2, s1, p1) at s2) ∙ w)

-- the same, of what the bytes themselves hold
module _ (b : List ℕ) (form : Form) (n k : ℕ) (some : 0 < k) (e : packed_bytes (packed_at b form n k) ≡ b) where
  pub length_packed : length b ≡ entry_at form n k + 6 + 8 * n
  length_packed = packed_whole (sized_packed b form n k) some e

  pub put_packed_is : (O : List ℕ) → size_for form n k ≤ length O
      → sets (sets (sets O 0 (take (20 + 16 * n) b)) (20 + 16 * n) (each k (record_here b form (field_for n) n))) (20 + 16 * n + curve_bytes form (field_for n) * k) (drop (entry_at form n k) b) ≡ written (bytes_of (packed_at b form n k)) O
  put_packed_is O h = rw (records_are b form n (field_for n) k) (put_whole (sized_packed b form n k) some e O h)

-- without curves nothing changes
pub plain_same : (b : List ℕ) (form : Form) (n k : ℕ) → k ≡ 0 → packed_bytes (packed_at b form n k) ≡ b → bytes_of (packed_at b form n k) ≡ b
plain_same b form n k z e =
    let F : File = packed_at b form n k in
    let s : Sized F n k = sized_packed b form n k in
    let p : packed_bytes F ≡ framed (rec 1 (le 8 F.tolerance)) ++ (framed (rec 2 (les F.marks)) ++ []) = packed_are F ∙ rw (packed_none s z) in
    bytes_are F ∙ rw (rest_none F.form (field_in F) F.firsts F.worsts F.curves F.params (s.firsts ∙ z)) (sym p ∙ e)

pub length_unpacked : (b : List ℕ) (form : Form) (n k : ℕ) → length (bytes_of (packed_at b form n k)) ≡ size_for form n k
length_unpacked b form n k = length-bytes (sized_packed b form n k)

-- ---- a packed file that can be lent keeps the size of what it unpacks to in a number

curves-few : (form : Form) (field : Field) (k : ℕ) → curve_bytes form field * k ≤ 2 * (entry_bytes form * k)
curves-few Eight Two k = omega arith
curves-few Eight Four k = omega arith
curves-few Nine Two k = omega arith
curves-few Nine Four k = omega arith

pub unpacked_few : (form : Form) (n k : ℕ) → entry_at form n k + 6 + 8 * n < 2 ^ 63 → params_at form n k + 8 * n < 2 ^ 64
unpacked_few form n k h = omega (arith, curves-few form (field_for n) k)
