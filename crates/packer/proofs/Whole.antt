-- The whole of a packed file, as it is put together of the file's bytes. Assumes nothing.
use mathlib.Core.Path.{◌≡◌, refl, sym, ap, ◌∙◌}
use mathlib.Core.Bool.{true}
use mathlib.Core.List.{List, ◌++◌, append_assoc}
use Prim.Native.Nat.{ℕ, ◌+◌, ◌-◌, ◌*◌, ◌<◌, ◌≤◌}
use native.Mathlib.Omega.{arith}
use lib.ListN.{length, take, drop, length-append, length-drop, drop_of_length-le}
use lib.Seq.{take_at, take_all, length-take-le, sets}
use Rattle.float.specs.Slices.{written}
use Rattle.form.specs.declared.Form.{Form}
use Rattle.house.specs.Bytes.{num, le, words, les, all_fit}
use Rattle.house.specs.File.{File, rec, framed, flat}
use Rattle.house.specs.Held.{file_at}
use Rattle.house.proofs.Numbers.{length-le}
use Rattle.house.proofs.Rows.{length-words, length-les}
use Rattle.text.proofs.Stores.{written-sets}
use Rattle.grammar.proofs.Formed.{Sized, params_some}
use Rattle.grammar.proofs.Laid.{Laid, plain, full, Started, Ended}
use Rattle.grammar.proofs.Held.{sized_at, start_held, params-held}
use Rattle.packed.specs.Each.{each}
use Rattle.packed.specs.Packed.{entry_bytes, entry_of, packed_body, packed_rest, packed_bytes}
use Rattle.packed.specs.Unpacked.{entry_at}
use Rattle.packed.specs.Layout.{packed_size}
use Rattle.packed.proofs.Sizes.{entries_length, body-length, packed_none, packed_some, packed_are, packed_length_is}
use Rattle.packer.specs.Layout.{record_at, lead_of}
use Rattle.packer.proofs.Puts.{put_on, length_lead}

-- a file with curves
pub with_curves : {b : List ℕ} {form : Form} {n k : ℕ} → Laid b form n k → 0 < k → Ended b form n k
with_curves (plain s z f e) some = absurd (omega arith)
with_curves (full s d) some = d

module _ (b : List ℕ) (g : all_fit 1 b ≡ true) (form : Form) (n k : ℕ) where
  abbrev F : File
  F = file_at b form n k

  abbrev entries : List ℕ
  entries = each k (entry_of F)

  sized : Sized F n k
  sized = sized_at b form n k

  -- kinds 1 and 2 as they stand
  abbrev start : List ℕ
  start = framed (rec 1 (le 8 (num 8 b 6))) ++ framed (rec 2 (les (words (2 * n) (drop 20 b))))

  start_is : Started b n → 20 + 16 * n ≤ length b → start ≡ take (20 + 16 * n) b
  start_is s h =
      let d : List ℕ = drop (20 + 16 * n) b in
      let e : start ++ d ≡ b = append_assoc (framed (rec 1 (le 8 (num 8 b 6)))) (framed (rec 2 (les (words (2 * n) (drop 20 b))))) d ∙ start_held b g n d s h refl in
      let l : length start ≡ 20 + 16 * n = simp (length-append, length-le, length-les, length-words) (omega arith) in
      sym (take_at start d (20 + 16 * n) l) ∙ ap (take (20 + 16 * n)) e

  -- a file without curves stays as it is
  pub plain_is : Laid b form n k → k ≡ 0 → packed_bytes F ≡ b
  plain_is (plain s z f e) none = packed_are F ∙ start_held b g n (flat (packed_rest F)) s (omega arith) (packed_none sized none ∙ sym (drop_of_length-le b {i = 20 + 16 * n} (omega arith)))
  plain_is (full s d) none = absurd (omega (arith, d.some))

  -- the one record
  record_is : 0 < k → framed (rec 8 (packed_body F)) ≡ lead_of F k ++ entries
  record_is h = rw (body-length sized h, sized.firsts) (simp append_assoc)

  -- with curves
  module _ (s : Started b n) (d : Ended b form n k) where
    abbrev last : ℕ
    last = record_at form n k

    params_is : framed (rec 4 (les F.params)) ≡ drop last b
    params_is = rw (params_some n d.some) (params-held b g last n d.size d.head4)

    pub whole_is : packed_bytes F ≡ ((take (20 + 16 * n) b ++ lead_of F k) ++ entries) ++ drop last b
    whole_is =
        let a : start ≡ take (20 + 16 * n) b = start_is s (omega (arith, d.size)) in
        let r : flat (packed_rest F) ≡ (lead_of F k ++ entries) ++ drop last b = packed_some sized d.some ∙ rw (record_is d.some, params_is) in
        let t : packed_bytes F ≡ start ++ flat (packed_rest F) = packed_are F ∙ sym (append_assoc (framed (rec 1 (le 8 (num 8 b 6)))) (framed (rec 2 (les (words (2 * n) (drop 20 b))))) (flat (packed_rest F))) in
        t ∙ rw (a, r) (simp append_assoc)

    pub whole-put : (O : List ℕ) → packed_size form n k ≤ length O → {m1 m2 m3 m4 : List ℕ} {p q r x : ℕ} → m1 ≡ sets O 0 (take (20 + 16 * n) b) → m2 ≡ sets m1 p (lead_of F k) → m3 ≡ sets m2 q entries → m4 ≡ sets m3 r (take (length b - x) (drop x b))
        → x ≡ last → p ≡ 20 + 16 * n → q ≡ entry_at form n 0 → r ≡ entry_at form n k → m4 ≡ written (packed_bytes F) O
    whole-put O room {m1} {m2} {m3} {m4} {p} {q} {r} {x} e1 e2 e3 e4 ex ep eq er =
        let T : List ℕ = take (20 + 16 * n) b in
        let l1 : length T ≡ 20 + 16 * n = length-take-le (20 + 16 * n) b (omega (arith, d.size)) in
        let l2 : length (lead_of F k) ≡ 27 = length_lead b form n k d.some in
        let l3 : length entries ≡ entry_bytes form * k = rw sized.firsts at (entries_length sized) in
        let p2 : q ≡ 0 + length (T ++ lead_of F k) = rw (length-append T (lead_of F k), l1, l2) (omega arith) in
        let p3 : r ≡ 0 + length ((T ++ lead_of F k) ++ entries) = rw (length-append (T ++ lead_of F k) entries, length-append T (lead_of F k), l1, l2, l3) (omega arith) in
        let t : take (length b - x) (drop x b) ≡ drop last b = take_all (length b - x) (drop x b) (simp length-drop (omega arith)) ∙ ap (λ (y : ℕ). drop y b) ex in
        let a : m4 ≡ sets O 0 (((T ++ lead_of F k) ++ entries) ++ drop last b) = put_on O 0 ((T ++ lead_of F k) ++ entries) (drop last b) (put_on O 0 (T ++ lead_of F k) entries (put_on O 0 T (lead_of F k) e1 e2 (omega arith)) e3 p2) (rw t at e4) p3 in
        (rw (sym whole_is) at a) ∙ written-sets (packed_bytes F) O (rw (packed_length_is sized) room)
