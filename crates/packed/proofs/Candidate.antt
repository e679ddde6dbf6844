-- The candidate: bytes are no other packed file, and the heads and numbers at fixed places tell whether they are it. And bytes are a file in one form only, unless it has no curves. Assumes nothing.
use mathlib.Core.Path.{◌≡◌, refl, sym, ◌∙◌}
use mathlib.Core.Bool.{Bool, true, false, cond}
use mathlib.Core.List.{List}
use Prim.Native.Nat.{ℕ, zero, suc, ◌+◌, ◌*◌, ◌<◌}
use native.Mathlib.Omega.{arith}
use borrow.Author.Tests.{ltb-true}
use lib.ListN.{drop}
use lib.Seq.{drop-drop}
use Rattle.float.specs.Answer.{ok, refused}
use Rattle.float.proofs.Truth.{both, not_so}
use Rattle.float.proofs.Answers.{unless_ok}
use Rattle.form.specs.declared.Form.{Form}
use Rattle.house.specs.Limits.{badly_formed, field_for, curve_kind}
use Rattle.house.specs.Bytes.{num, all_fit}
use Rattle.house.specs.File.{File, Holds, bytes_of, marks_in, curves_in, well_formed}
use Rattle.house.specs.Held.{marks_held, candidate, is_file}
use Rattle.house.proofs.Forms.{kind-few}
use Rattle.house.proofs.Numbers.{split}
use Rattle.grammar.proofs.Curves.{lead_kind}
use Rattle.grammar.proofs.Formed.{formed}
use Rattle.grammar.proofs.Laid.{Laid, plain, full}
use Rattle.grammar.proofs.Whole.{bytes_are, rest_none}
use Rattle.grammar.proofs.Candidate.{same_in, same_out, holds_candidate, candidate_holds, candidate_is, file-laid}
use Rattle.packed.specs.Packed.{packed_bytes, Packs}
use Rattle.packed.specs.Unpacked.{packed_form, packed_curves, packed_candidate, is_packed, packed_of, held_of}
use Rattle.packed.proofs.Sizes.{packed_none, packed_are}
use Rattle.packed.proofs.Laid.{Joined, PackedLaid, some_joined, packed_marks, packed_form_is, packed_curves_is, packed_candidate_is}
use Rattle.packed.proofs.Held.{packed_held}
use Rattle.packed.proofs.Back.{Packed-back, packed_back}

-- without curves both forms are the same bytes
pub plain_both : (F : File) → curves_in F ≡ 0 → well_formed F ≡ true → packed_bytes F ≡ bytes_of F
plain_both F z w = packed_are F ∙ rw (packed_none (formed F w).sized z) (sym (bytes_are F ∙ rw (rest_none F.form _ F.firsts F.worsts F.curves F.params z)))

module _ {b : List ℕ} where
  -- the test for a packed file, as facts
  pub packs_candidate : is_packed b ≡ true → Packs b (packed_candidate b)
  unfolding is_packed
  packs_candidate h =
      let h0 = split _ _ h in
      let h1 = split _ _ h0.1 in
      let h2 = split _ _ h1.1 in
      record { formed = h0.0; short = h1.0; meets = h2.0; bytes = same_out (packed_bytes (packed_candidate b)) b h2.1 }

  pub candidate_packs : Packs b (packed_candidate b) → is_packed b ≡ true
  unfolding is_packed
  candidate_packs h = both _ _ h.formed (both _ _ h.short (both _ _ h.meets (rw h.bytes (same_in b))))

  -- no other file is possible
  pub back_of : {F : File} → Packs b F → Packed-back b F (marks_in F) (curves_in F)
  back_of {F} h = rw h.bytes at (packed_back (formed F h.formed) (ltb-true _ _ h.short) h.meets)

  pub packed_is : {F : File} → Packs b F → packed_candidate b ≡ F
  packed_is h = let r = back_of h in packed_candidate_is r.laid ∙ r.file

  -- the heads and numbers at fixed places
  pub packed_laid : is_packed b ≡ true → let n = marks_held b in let form = packed_form b n in PackedLaid b form n (packed_curves b form n)
  packed_laid h =
      let l = (back_of (packs_candidate h)).laid in
      rw (packed_marks l, packed_form_is l, packed_curves_is l) l

  pub laid_packed : {form : Form} {n k : ℕ} → all_fit 1 b ≡ true → PackedLaid b form n k → is_packed b ≡ true
  laid_packed {form} {n} {k} g l = candidate_packs (rw (packed_candidate_is l) (packed_held b g form n k l))

  -- ---- the file that packed bytes are

  pub packs_file : {F : File} → Packs b F → packed_of b ≡ ok F
  unfolding packed_of
  packs_file {F} h =
      let e : packed_candidate b ≡ F = packed_is h in
      let t : is_packed b ≡ true = candidate_packs (rw e h) in
      rw (t, e)

  pub file_packs : {F : File} → packed_of b ≡ ok F → Packs b F
  unfolding packed_of
  file_packs {F} e =
      let u = unless_ok badly_formed (is_packed b) (ok (packed_candidate b)) e in
      let c : packed_candidate b ≡ F = cc in
      rw c at (packs_candidate u.0)

  -- ---- one form only

  -- with curves kind 8 stands where a file has a curve's kind
  kinds : {form form' : Form} {n k k' : ℕ} → Joined b form n k → Laid b form' n k' → ⊥
  kinds {n = n} j (plain s z f e) = omega (arith, j.size)
  kinds {form' = form'} {n = n} {k' = k'} j (full s d) =
      let p : drop 4 (drop (20 + 16 * n) b) ≡ drop (20 + 16 * n + 4) b = drop-drop 4 (20 + 16 * n) b in
      let t : num 2 b (20 + 16 * n + 4) ≡ curve_kind form' (field_for n) = rw p at (lead_kind form' (field_for n) k' (drop (20 + 16 * n) b) d.some d.heads) in
      omega (arith, j.head8.kind_is, t, kind-few form' (field_for n))

  pub packs_apart : {F : File} → Packs b F → 0 < curves_in F → is_file b ≡ false
  packs_apart {F} h some =
      not_so (is_file b)
      (λ t.
      let r = back_of h in
      let l = file-laid t in
      kinds (some_joined r.laid some) (rw (packed_marks r.laid) at l))

  -- ---- a file in either form

  pub holds_held : {F : File} → Holds b F → held_of b ≡ ok F
  unfolding held_of
  holds_held {F} h =
      let e : candidate b ≡ F = candidate_is h in
      let t : is_file b ≡ true = candidate_holds (rw e h) in
      rw (t, e)

  pub packs_held : {F : File} → Packs b F → held_of b ≡ ok F
  unfolding held_of
  packs_held {F} h = go (curves_in F) refl
    where
      go : (k : ℕ) → curves_in F ≡ k → held_of b ≡ ok F
      go zero z = holds_held (record { formed = h.formed; bytes = sym (plain_both F z h.formed) ∙ h.bytes })
      go (suc k) z = rw (packs_apart h (omega arith)) (packs_file h)

-- bytes that are a file, in one form or the other
pub data Stored (b : List ℕ) (F : File) : Type 0 where
  twice : Holds b F → Stored b F
  once : Packs b F → Stored b F

pub stored_formed : {b : List ℕ} {F : File} → Stored b F → well_formed F ≡ true
stored_formed (twice h) = h.formed
stored_formed (once h) = h.formed

pub stored_held : {b : List ℕ} {F : File} → Stored b F → held_of b ≡ ok F
stored_held (twice h) = holds_held h
stored_held (once h) = packs_held h

pub held_stored : {b : List ℕ} {F : File} → held_of b ≡ ok F → Stored b F
unfolding held_of
held_stored {b} {F} e = go (is_file b) refl e
  where
    go : (t : Bool) → is_file b ≡ t → cond t (ok (candidate b)) (packed_of b) ≡ ok F → Stored b F
    go true t q = let c : candidate b ≡ F = cc in twice (rw c at (holds_candidate t))
    go false t q = once (file_packs q)

pub no_held : {b : List ℕ} → ((F : File) → Stored b F → ⊥) → held_of b ≡ refused badly_formed
unfolding held_of packed_of
no_held {b} never = rw (not_so (is_file b) (λ t. never (candidate b) (twice (holds_candidate t))), not_so (is_packed b) (λ t. never (packed_candidate b) (once (packs_candidate t))))
