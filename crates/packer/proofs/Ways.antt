-- What each way through the call answers. Assumes nothing.
use mathlib.Core.Path.{◌≡◌, sym, ap, ◌∙◌}
use mathlib.Core.Bool.{true, false}
use mathlib.Core.List.{List}
use Prim.Native.Nat.{ℕ, ◌+◌, ◌*◌, ◌<◌, ◌≤◌, ◌^◌}
use native.Mathlib.Nat.{mul-le-mul_right}
use native.Mathlib.Omega.{arith}
use borrow.Author.Tests.{lt-ltb, le-leb}
use lib.ListN.{length, length-append, length-take}
use Rattle.float.specs.Answer.{ok, refused, unless}
use Rattle.float.specs.Slices.{written}
use Rattle.float.proofs.Answers.{granted, denied}
use Rattle.lines.specs.Handed.{Handed, handed, hand_over, over_to}
use Rattle.lines.proofs.Handed.{over-short}
use Rattle.form.specs.declared.Form.{Form}
use Rattle.form.specs.declared.Form.TheVariants.{Eight, Nine}
use Rattle.house.specs.declared.sizes.Field.{Field}
use Rattle.house.specs.declared.sizes.Field.TheVariants.{Two, Four}
use Rattle.house.specs.Limits.{field_for, curve_bytes}
use Rattle.house.specs.Bytes.{fits, same, all_fit}
use Rattle.house.specs.File.{File}
use Rattle.house.specs.Held.{file_at, is_file, file_of}
use Rattle.house.proofs.Numbers.{length-le}
use Rattle.house.proofs.Rows.{length-bytes}
use Rattle.grammar.proofs.Laid.{laid-candidate}
use Rattle.grammar.proofs.Held.{sized_at}
use Rattle.heads.proofs.Ways.{Told}
use Rattle.packed.specs.Each.{each}
use Rattle.packed.specs.Packed.{entry_bytes, start_at, packed_body, packed_bytes, short, meets}
use Rattle.packed.specs.Layout.{packed_size}
use Rattle.packed.proofs.Sizes.{body-length, packed_length_is}
use Rattle.packer.specs.Layout.{packed_length}
use Rattle.packer.specs.Packer.{packed_text, pack_of}
use Rattle.packer.proofs.Whole.{plain_is}

-- ---- sizes

-- a curve takes no more bytes than before
entry_within : (form : Form) (field : Field) → entry_bytes form ≤ curve_bytes form field
entry_within Eight Two = omega arith
entry_within Eight Four = omega arith
entry_within Nine Two = omega arith
entry_within Nine Four = omega arith

pub entries_within : (form : Form) (n k : ℕ) → entry_bytes form * k ≤ curve_bytes form (field_for n) * k
entries_within form n k = mul-le-mul_right k (entry_within form (field_for n))

-- ---- answers

pub pack_broken : (b O : List ℕ) → is_file b ≡ false → handed (refused 9) O ≡ pack_of b O
unfolding pack_of packed_text file_of
pack_broken b O e = rw e

module _ (b O : List ℕ) {form : Form} {n k : ℕ} (t : Told b form n k) where
  abbrev F : File
  F = file_at b form n k

  text_is : packed_text b ≡ unless 9 (short F) (unless 12 (meets F) (ok (packed_bytes F)))
  unfolding packed_text file_of
  text_is = rw (t.file, laid-candidate t.laid)

  -- without curves
  short_none : k ≡ 0 → short F ≡ true
  unfolding each
  short_none e =
      let l : length (start_at F 0) ≤ 2 = simp length-take (omega arith) in
      let z : length (packed_body F) ≡ 5 + 8 * length (start_at F 0) = rw ((sized_at b form n k).firsts, e) (simp (length-append, length-le, length-bytes) (omega arith)) in
      lt-ltb (2 + length (packed_body F)) (256 ^ 4) (omega arith)

  meets_none : k ≡ 0 → meets F ≡ true
  unfolding meets each same
  meets_none e = rw ((sized_at b form n k).firsts, e)

  pub pack-plain : all_fit 1 b ≡ true → k ≡ 0 → {H : Handed} → H ≡ hand_over b O → H ≡ pack_of b O
  unfolding pack_of
  pack-plain g e h = h ∙ rw (text_is, short_none e, meets_none e, plain_is b g form n k t.laid e)

  -- with curves
  module _ (some : 0 < k) {x : ℕ} (len : x ≡ packed_length form k) where
    short_is : short F ≡ fits 4 x
    short_is = rw (len, body-length (sized_at b form n k) some)

    pub pack_long : fits 4 x ≡ false → handed (refused 9) O ≡ pack_of b O
    unfolding pack_of
    pack_long e = ap (over_to O) (denied 9 (unless 12 (meets F) (ok (packed_bytes F))) (short_is ∙ e) ∙ sym text_is)

    module _ (fit : fits 4 x ≡ true) where
      met : packed_text b ≡ unless 12 (meets F) (ok (packed_bytes F))
      met = text_is ∙ sym (granted 9 (unless 12 (meets F) (ok (packed_bytes F))) (short_is ∙ fit))

      pub pack-apart : meets F ≡ false → handed (refused 12) O ≡ pack_of b O
      unfolding pack_of
      pack-apart e = ap (over_to O) (denied 12 (ok (packed_bytes F)) e ∙ sym met)

      all : meets F ≡ true → packed_text b ≡ ok (packed_bytes F)
      all e = met ∙ sym (granted 12 (ok (packed_bytes F)) e)

      pub pack-small : meets F ≡ true → length O < packed_size form n k → handed (refused 4) O ≡ pack_of b O
      unfolding pack_of
      pack-small e h = over-short (packed_bytes F) O (rw (packed_length_is (sized_at b form n k)) h) ∙ ap (over_to O) (sym (all e))

      pub pack-done : meets F ≡ true → packed_size form n k ≤ length O → {s : ℕ} {O' : List ℕ} → s ≡ packed_size form n k → O' ≡ written (packed_bytes F) O → handed (ok s) O' ≡ pack_of b O
      unfolding pack_of hand_over
      pack-done e h es eo = let l : length (packed_bytes F) ≡ packed_size form n k = packed_length_is (sized_at b form n k) in rw (all e, le-leb (length (packed_bytes F)) (length O) (omega arith), es, eo, l)
