-- What each way through the reader answers. Assumes nothing.
use mathlib.Core.Path.{◌≡◌, refl, sym, ap, ◌∙◌}
use mathlib.Core.Bool.{true, false, ◌&&◌}
use mathlib.Core.List.{List}
use Prim.Native.Nat.{ℕ, zero, suc, ◌*◌, ◌/◌, ◌<◌, ◌≤◌}
use native.Mathlib.Omega.{arith}
use borrow.Author.Tests.{le-leb, lt-leb}
use lib.Dec.{leb}
use lib.ListN.{length}
use Rattle.float.specs.Answer.{ok, refused, unless}
use Rattle.form.specs.declared.Form.{Form}
use Rattle.limits.specs.Limits.{most_marks}
use Rattle.house.specs.Limits.{field_for}
use Rattle.house.specs.Bytes.{num}
use Rattle.house.specs.File.{File, Holds, curves_in}
use Rattle.house.specs.Held.{candidate, is_file}
use Rattle.house.specs.Slices.{room}
use Rattle.house.specs.Layout.{size_for, Copied}
use Rattle.reader.specs.Reader.{within, judged, outcome, read_of}
use Rattle.reader.specs.Layout.{HeldRoom}
use Rattle.house.proofs.Rows.{length-words}
use Rattle.grammar.proofs.Curves.{length-firsts}
use Rattle.grammar.proofs.Formed.{params_some}
use Rattle.grammar.proofs.Laid.{Laid, plain, full}
use Rattle.grammar.proofs.Rooms.{Places, size_none, size_some, places}
use Rattle.grammar.proofs.Candidate.{candidate_is, candidate_holds}
use Rattle.heads.specs.declared.Layout.{Layout}
use Rattle.std.proofs.Common.{Option, Some, None}
use Rattle.std.proofs.lemmas.Option.{same_Some}
use Rattle.heads.specs.Layout.{layout_of}
use Rattle.heads.proofs.Ways.{untold}
use Rattle.packed.proofs.Pieces.{sized_packed}
use Rattle.packed.proofs.Laid.{some_joined}
use Rattle.packed.proofs.Candidate.{Stored, twice, once, plain_both, held_stored}
use Rattle.packed_heads.specs.declared.Joints.{Joints}
use Rattle.packed_heads.specs.declared.Joints.TheVariants.{Twice, Once}
use Rattle.packed_heads.specs.declared.Held.{Held}
use Rattle.packed_heads.specs.Layout.{packed_layout_of, either_of, held_layout_of, held_at}
use Rattle.packed_heads.proofs.Told.{HeldTold, HeldLaid, held_told, held_untold, stored}
use Rattle.packed_heads.proofs.Told as told

pub read_broken : (b : List ℕ) {M P W C Q : List ℕ} → held_layout_of b ≡ None → outcome (refused 9) M P W C Q ≡ read_of b M P W C Q
unfolding read_of judged
read_broken b e = rw (held_untold b e)

-- ---- what stands in the bytes, in either form

record Shape (F : File) (b : List ℕ) (form : Form) (n k : ℕ) : Type 0 where
  stored : F.form ≡ form
  tolerance : F.tolerance ≡ num 8 b 6
  marks : length F.marks ≡ 2 * n
  curves : length F.firsts ≡ k

shape : (joints : Joints) (b : List ℕ) (form : Form) (n k : ℕ) → Shape (held_at joints b form n k) b form n k
shape Twice b form n k = record { stored = refl; tolerance = refl; marks = length-words _ _; curves = length-firsts form (field_for n) k _ }
shape Once b form n k = let s = sized_packed b form n k in record { stored = refl; tolerance = refl; marks = s.marks; curves = s.firsts }

within_at : {F : File} {b : List ℕ} {form : Form} {n k : ℕ} → Shape F b form n k → (m p w c q : ℕ) → within F m p w c q ≡ unless 2 (leb n most_marks) (unless 4 (leb (2 * n) m && room form n k p w c q) (ok F))
within_at {n = n} s m p w c q = let half : 2 * n / 2 ≡ n = omega arith in rw (s.marks, s.stored, s.curves, half)

module _ {b : List ℕ} {joints : Joints} {form : Form} {n k : ℕ} (t : HeldTold b joints form n k) where
  judged_at : (m p w c q : ℕ) → judged b m p w c q ≡ unless 2 (leb n most_marks) (unless 4 (leb (2 * n) m && room form n k p w c q) (ok (held_at joints b form n k)))
  unfolding judged
  judged_at m p w c q = rw t.file (within_at (shape joints b form n k) m p w c q)

  module _ {M P W C Q : List ℕ} where
    pub read_many : most_marks < n → outcome (refused 2) M P W C Q ≡ read_of b M P W C Q
    unfolding read_of
    read_many h = rw (judged_at (length M) (length P) (length W) (length C) (length Q), lt-leb n most_marks h)

    module _ (h : n ≤ most_marks) where
      pub read-few : length M < 2 * n → outcome (refused 4) M P W C Q ≡ read_of b M P W C Q
      unfolding read_of
      read-few m = rw (judged_at (length M) (length P) (length W) (length C) (length Q), le-leb n most_marks h, lt-leb (2 * n) (length M) m)

      module _ (m : 2 * n ≤ length M) where
        pub read_short : room form n k (length P) (length W) (length C) (length Q) ≡ false → outcome (refused 4) M P W C Q ≡ read_of b M P W C Q
        unfolding read_of
        read_short r = rw (judged_at (length M) (length P) (length W) (length C) (length Q), le-leb n most_marks h, le-leb (2 * n) (length M) m, r)

        pub read-given : room form n k (length P) (length W) (length C) (length Q) ≡ true → {t : ℕ} {M' P' W' C' Q' : List ℕ} → t ≡ num 8 b 6 → Copied (held_at joints b form n k) M P W C Q M' P' W' C' Q'
            → outcome (ok (record { form = form; tolerance = t; marks = n; curves = k })) M' P' W' C' Q' ≡ read_of b M P W C Q
        unfolding read_of
        read-given r e f =
            let s = shape joints b form n k in
            let half : 2 * n / 2 ≡ n = omega arith in
            simp (judged_at (length M) (length P) (length W) (length C) (length Q), le-leb n most_marks h, le-leb (2 * n) (length M) m, r, s.stored, s.tolerance, s.marks, s.curves, half, e, f.marks, f.firsts, f.worsts, f.curves, f.params)

-- ---- and there is room to copy

-- bytes without curves are a file of old kinds
held-file : {b : List ℕ} {F : File} → Holds b F → is_file b ≡ true
held-file {b} {F} h = let e : candidate b ≡ F = candidate_is h in candidate_holds (rw e h)

plain-file : {b : List ℕ} {F : File} → Stored b F → curves_in F ≡ 0 → is_file b ≡ true
plain-file {b} {F} (twice h) z = held-file h
plain-file {b} {F} (once p) z = held-file (record { formed = p.formed; bytes = sym (plain_both F z p.formed) ∙ p.bytes })

twice_once : ◌≡◌ {A = Joints} Twice Once → ⊥
twice_once e = cc

-- so where the joints stand once, there are curves
module _ (b : List ℕ) (form : Form) (n k : ℕ) (e : held_layout_of b ≡ Some (stored Once form n k)) where
  untwice : layout_of b ≡ None
  unfolding held_layout_of
  untwice = go (layout_of b) refl e
    where
      go : (l : Option Layout) → layout_of b ≡ l → either_of l (packed_layout_of b) ≡ Some (stored Once form n k) → layout_of b ≡ None
      go (Some l) x q = absurd (twice_once (ap (λ (h : Held). h.joints) (same_Some _ _ q)))
      go None x q = x

  once_some : 0 < k
  once_some = go k refl
    where
      go : (i : ℕ) → k ≡ i → 0 < k
      go zero z =
          let a : is_file b ≡ false = untold b untwice in
          let y : is_file b ≡ true = plain-file (held_stored (held_told b Once form n k e).file) ((sized_packed b form n k).firsts ∙ z) in
          let x : ◌≡◌ {A = ℕ} 0 1 = cc in
          absurd (omega arith)
      go (suc i) z = omega arith

module _ (b : List ℕ) (form : Form) (n k : ℕ) (M P W C Q : List ℕ) where
  file-fits : Laid b form n k → size_for form n k ≤ length b
  file-fits (plain s z f x) = omega (arith, size_none form n x)
  file-fits (full s d) = omega (arith, size_some form n d.some, d.size)

  pub held-room : (joints : Joints) → held_layout_of b ≡ Some (stored joints form n k) → 2 * n ≤ length M → room form n k (length P) (length W) (length C) (length Q) ≡ true → HeldRoom joints form n k b M P W C Q
  held-room joints e m r = go (held_told b joints form n k e).laid e
    where
      s : Places form n k (length P) (length W) (length C) (length Q)
      s = places form n k (length P) (length W) (length C) (length Q) r

      go : {j : Joints} → HeldLaid b j form n k → held_layout_of b ≡ Some (stored j form n k) → HeldRoom j form n k b M P W C Q
      go (told.twice l) x = record { bytes = file-fits l; marks = m; firsts = s.firsts; worsts = s.worsts; curves = s.curves; params = s.params }
      go (told.once l) x =
          let some = once_some b form n k x in
          record { some = some; bytes = omega (arith, (some_joined l some).size); marks = m; firsts = s.firsts; worsts = s.worsts; curves = s.curves; params = rw (params_some n some) at s.params }
