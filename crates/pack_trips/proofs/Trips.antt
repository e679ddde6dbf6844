-- Packed and back again, read, and sizes. Assumes nothing.
use mathlib.Core.Path.{◌≡◌, refl, sym, ap, ◌∙◌}
use mathlib.Core.Bool.{Bool, true, false}
use mathlib.Core.List.{List}
use Prim.Native.Nat.{ℕ, ◌+◌, ◌-◌, ◌*◌, ◌≤◌}
use native.Mathlib.Omega.{arith}
use borrow.Author.Tests.{le-leb}
use lib.Dec.{leb}
use lib.ListN.{length, take, drop}
use lib.Seq.{take_at}
use Rattle.float.specs.Answer.{Answer, ok, refused, unless, ◌>>=◌}
use Rattle.float.specs.Slices.{written}
use Rattle.float.proofs.Answers.{not_refused, unless_ok}
use Rattle.form.specs.declared.Form.{Form}
use Rattle.form.specs.declared.Form.TheVariants.{Eight, Nine}
use Rattle.house.specs.declared.sizes.Field.{Field}
use Rattle.house.specs.declared.sizes.Field.TheVariants.{Two, Four}
use Rattle.house.specs.Limits.{mark_field, besides, curve_bytes}
use Rattle.house.specs.File.{File, Holds, bytes_of, marks_in, curves_in, field_in}
use Rattle.house.specs.Held.{file_of}
use Rattle.lines.specs.Handed.{Handed, handed, hand_over, over_to}
use Rattle.grammar.proofs.Formed.{formed}
use Rattle.grammar.proofs.Whole.{length-bytes}
use Rattle.grammar.proofs.Rooms.{size_some}
use Rattle.grammar.proofs.Grammar.{holds_file, file_holds}
use Rattle.packed.specs.Packed.{entry_bytes, packed_bytes, short, meets, Packs}
use Rattle.packed.specs.Unpacked.{packed_of, held_of}
use Rattle.packed.proofs.Sizes.{packed_length_is, packed_size_some}
use Rattle.packed.proofs.Candidate.{packs_file, file_packs, holds_held, packs_held}
use Rattle.reader.specs.Reader.{within, judged, settled, read_of}
use Rattle.packer.specs.Packer.{packed_text, pack_of}
use Rattle.unpacker.specs.Unpacker.{unpacked_text, unpack_of}
use Rattle.pack_trips.specs.Trips.{PackedAndBack, UnpackedAndBack, ReadAlike, Shorter}

-- ---- what was handed over

-- a text that was handed over is in front
record Given (a : Answer (List ℕ)) (P : List ℕ) (len : ℕ) : Type 0 where
  text : List ℕ
  is : a ≡ ok text
  front : take len P ≡ text

given : (a : Answer (List ℕ)) (O P : List ℕ) (len : ℕ) → handed (ok len) P ≡ over_to O a → Given a P len
unfolding hand_over
given (refused q) O P len e = not_refused q (ap (λ (H : Handed). H.answer) e)
given (ok t) O P len e = go (leb (length t) (length O)) refl e
  where
    go : (r : Bool) → leb (length t) (length O) ≡ r → handed (ok len) P ≡ hand_over t O → Given (ok t) P len
    go true x q =
        let w : handed (ok len) P ≡ handed (ok (length t)) (written t O) = rw x at q in
        let a : ok len ≡ ok (length t) = ap (λ (H : Handed). H.answer) w in
        let l : len ≡ length t = cc in
        let o : P ≡ written t O = ap (λ (H : Handed). H.out) w in
        record { text = t; is = refl; front = rw (l, o) (take_at t (drop (length t) O) (length t) refl) }
    go false x q = let w : handed (ok len) P ≡ handed (refused 4) O = rw x at q in not_refused 4 (ap (λ (H : Handed). H.answer) w)

-- a text for which there is room is handed over
whole : (t U : List ℕ) → length t ≤ length U → hand_over t U ≡ handed (ok (length t)) (written t U)
unfolding hand_over
whole t U h = rw (le-leb (length t) (length U) h)

-- ---- what was packed, and what was unpacked

packed_from : (b : List ℕ) {t : List ℕ} → packed_text b ≡ ok t → (F : File) × (Holds b F × Packs t F)
unfolding packed_text
packed_from b {t} e = go (file_of b) refl e
  where
    go : (a : Answer File) → file_of b ≡ a → ◌>>=◌ a (λ (F : File). unless 9 (short F) (unless 12 (meets F) (ok (packed_bytes F)))) ≡ ok t → (F : File) × (Holds b F × Packs t F)
    go (refused q) x y = not_refused q (sym y)
    go (ok F) x y =
        let h = file_holds x in
        let u = unless_ok 9 (short F) _ y in
        let v = unless_ok 12 (meets F) (ok (packed_bytes F)) u.1 in
        let p : packed_bytes F ≡ t = cc in
        (F, (h, record { formed = h.formed; short = u.0; meets = v.0; bytes = p }))

unpacked_from : (b : List ℕ) {t : List ℕ} → unpacked_text b ≡ ok t → (F : File) × (Packs b F × Holds t F)
unfolding unpacked_text
unpacked_from b {t} e = go (packed_of b) refl e
  where
    go : (a : Answer File) → packed_of b ≡ a → ◌>>=◌ a (λ (F : File). ok (bytes_of F)) ≡ ok t → (F : File) × (Packs b F × Holds t F)
    go (refused q) x y = not_refused q (sym y)
    go (ok F) x y = let h = file_packs x in let p : bytes_of F ≡ t = cc in (F, (h, record { formed = h.formed; bytes = p }))

-- ---- there and back

module _ {t b : List ℕ} (U : List ℕ) (F : File) (l : length b ≤ length U) where
  unpacks : Packs t F → bytes_of F ≡ b → unpack_of t U ≡ handed (ok (length b)) (written b U)
  unfolding unpack_of unpacked_text
  unpacks h x = rw (packs_file h, x) (whole b U l)

  packs : Holds t F → short F ≡ true → meets F ≡ true → packed_bytes F ≡ b → pack_of t U ≡ handed (ok (length b)) (written b U)
  unfolding pack_of packed_text
  packs h s m x = rw (holds_file h, s, m, x) (whole b U l)

pub packed_and_back : PackedAndBack
unfolding pack_of
packed_and_back b O P U len e l =
    let g = given (packed_text b) O P len e in
    let f = packed_from b g.is in
    ap (λ (t : List ℕ). unpack_of t U) g.front ∙ unpacks U f.0 l f.1.1 f.1.0.bytes

pub unpacked_and_back : UnpackedAndBack
unfolding unpack_of
unpacked_and_back b O P U len e l =
    let g = given (unpacked_text b) O P len e in
    let f = unpacked_from b g.is in
    ap (λ (t : List ℕ). pack_of t U) g.front ∙ packs U f.0 l f.1.1 f.1.0.short f.1.0.meets f.1.0.bytes

-- ---- read

reads : (b : List ℕ) {F : File} → held_of b ≡ ok F → (M R W C Q : List ℕ) → read_of b M R W C Q ≡ settled (within F (length M) (length R) (length W) (length C) (length Q)) M R W C Q
unfolding read_of judged
reads b h M R W C Q = rw h

pub read_alike : ReadAlike
unfolding pack_of
read_alike b O P len e M R W C Q =
    let g = given (packed_text b) O P len e in
    let f = packed_from b g.is in
    ap (λ (t : List ℕ). read_of t M R W C Q) g.front ∙ reads g.text (packs_held f.1.1) M R W C Q ∙ sym (reads b (holds_held f.1.0) M R W C Q)

-- ---- sizes

curve-less : (form : Form) (field : Field) (k : ℕ) → entry_bytes form * k + 22 * k ≡ curve_bytes form field * k + (4 - mark_field field) * besides form * k
curve-less Eight Two k = omega arith
curve-less Eight Four k = omega arith
curve-less Nine Two k = omega arith
curve-less Nine Four k = omega arith

pub shorter : Shorter
shorter b F e some =
    let h = file_holds e in
    let s = (formed F h.formed).sized in
    let n : ℕ = marks_in F in
    let k : ℕ = curves_in F in
    let p : length (packed_bytes F) ≡ 20 + 16 * n + 6 + 21 + entry_bytes F.form * k + 6 + 8 * n = packed_length_is s ∙ packed_size_some F.form n some in
    let q : length b ≡ 20 + 16 * n + curve_bytes F.form (field_in F) * k + 6 + 8 * n = ap length (sym h.bytes) ∙ length-bytes s ∙ size_some F.form n some in
    omega (arith, p, q, curve-less F.form (field_in F) k)
