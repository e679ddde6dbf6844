-- When the reader and the writer accept, and what that tells: for each, the tests as facts, to and fro. Assumes nothing.
use mathlib.Core.Path.{◌≡◌, refl, ap, ◌∙◌}
use mathlib.Core.Bool.{◌&&◌}
use mathlib.Core.List.{List}
use Prim.Native.Nat.{ℕ, ◌/◌, ◌%◌, ◌≤◌}
use borrow.Author.Tests.{leb-true, le-leb, eqb-true}
use lib.Dec.{leb, eqb}
use lib.ListN.{length}
use Rattle.float.specs.Answer.{Answer, ok, refused}
use Rattle.form.specs.declared.Form.{Form}
use Rattle.limits.specs.Limits.{most_marks}
use Rattle.house.specs.Limits.{badly_formed}
use Rattle.house.specs.File.{File, bytes_of, marks_in, curves_in, fewer}
use Rattle.float.specs.Slices.{written}
use Rattle.house.specs.Slices.{room}
use Rattle.reader.specs.declared.Found.{Found}
use Rattle.reader.specs.Reader.{found_in, Outcome, outcome, within, judged, settled, read_of}
use Rattle.writer.proofs.Accepted.{Sound}
use Rattle.writer.specs.Writer.{file_for, marks_fit, checked, Writing, writing, put, write_of}
use Rattle.float.proofs.Answers.{not_refused, unless_ok}
use Rattle.house.proofs.Numbers.{split}
use Rattle.grammar.proofs.Rooms.{Places, places, placing}
use Rattle.packed.specs.Unpacked.{held_of}
use Rattle.packed.proofs.Candidate.{Stored, stored_held, held_stored, no_held}

-- ---- the reader

module _ {b : List ℕ} where
  module _ (M P W C Q : List ℕ) where
    -- a file is taken within the limits, for what it is
    pub reads : {F : File} → Stored b F → read_of b M P W C Q ≡ settled (within F (length M) (length P) (length W) (length C) (length Q)) M P W C Q
    unfolding read_of judged
    reads h = rw (stored_held h)

    -- whatever else is refused by 9
    pub refuses : ((F : File) → Stored b F → ⊥) → read_of b M P W C Q ≡ settled (refused badly_formed) M P W C Q
    unfolding read_of judged
    refuses never = rw (no_held never)

-- the file is small enough, and there is room for it
pub record Taken (F : File) (M P W C Q : List ℕ) : Type 0 where
  pub few : marks_in F ≤ most_marks
  pub marks : length F.marks ≤ length M
  pub places : Places F.form (marks_in F) (curves_in F) (length P) (length W) (length C) (length Q)

pub read_accepts : {b M P W C Q : List ℕ} {F : File} → Stored b F → Taken F M P W C Q
    → read_of b M P W C Q ≡ outcome (ok (found_in F)) (written F.marks M) (written F.firsts P) (written F.worsts W) (written F.curves C) (written F.params Q)
read_accepts {b} {M} {P} {W} {C} {Q} {F} h t =
    reads M P W C Q h
    ∙ simp (le-leb (marks_in F) most_marks t.few, le-leb (length F.marks) (length M) t.marks, placing t.places)

pub record Accepted (b M P W C Q : List ℕ) (f : Found) (M' P' W' C' Q' : List ℕ) : Type 0 where
  pub file : File
  pub stored : Stored b file
  pub taken : Taken file M P W C Q
  pub answer : f ≡ found_in file
  pub marks : M' ≡ written file.marks M
  pub firsts : P' ≡ written file.firsts P
  pub worsts : W' ≡ written file.worsts W
  pub curves : C' ≡ written file.curves C
  pub params : Q' ≡ written file.params Q

pub read-accepted : {b M P W C Q : List ℕ} {f : Found} {M' P' W' C' Q' : List ℕ} → outcome (ok f) M' P' W' C' Q' ≡ read_of b M P W C Q → Accepted b M P W C Q f M' P' W' C' Q'
unfolding read_of judged
read-accepted {b} {M} {P} {W} {C} {Q} {f} {M'} {P'} {W'} {C'} {Q'} e = first (held_of b) refl e
  where
    third : (F : File) → Stored b F → Taken F M P W C Q → outcome (ok f) M' P' W' C' Q' ≡ settled (ok F) M P W C Q → Accepted b M P W C Q f M' P' W' C' Q'
    third F h t q =
        let a : ok f ≡ ok (found_in F) = ap (λ (o : Outcome). o.answer) q in
        record {
          file = F;
          stored = h;
          taken = t;
          answer = cc;
          marks = ap (λ (o : Outcome). o.marks) q;
          firsts = ap (λ (o : Outcome). o.firsts) q;
          worsts = ap (λ (o : Outcome). o.worsts) q;
          curves = ap (λ (o : Outcome). o.curves) q;
          params = ap (λ (o : Outcome). o.params) q;
        }

    second : (F : File) → Stored b F → (a : Answer File) → within F (length M) (length P) (length W) (length C) (length Q) ≡ a → outcome (ok f) M' P' W' C' Q' ≡ settled a M P W C Q → Accepted b M P W C Q f M' P' W' C' Q'
    second F h (ok G) w q =
        let u = unless_ok 2 (leb (marks_in F) most_marks) _ w in
        let v = unless_ok 4 (leb (length F.marks) (length M) && room F.form (marks_in F) (curves_in F) (length P) (length W) (length C) (length Q)) (ok F) u.1 in
        let r = split _ _ v.0 in
        let g : F ≡ G = cc in
        third F h (record { few = leb-true _ _ u.0; marks = leb-true _ _ r.0; places = places _ _ _ _ _ _ _ r.1 }) (rw g q)
    second F h (refused n) w q = not_refused n (ap (λ (o : Outcome). o.answer) q)

    first : (a : Answer File) → held_of b ≡ a → outcome (ok f) M' P' W' C' Q' ≡ read_of b M P W C Q → Accepted b M P W C Q f M' P' W' C' Q'
    first (ok F) x q = second F (held_stored x) (within F (length M) (length P) (length W) (length C) (length Q)) refl (rw x at q)
    first (refused n) x q = let y : outcome (ok f) M' P' W' C' Q' ≡ outcome (refused n) M P W C Q = rw x at q in not_refused n (ap (λ (o : Outcome). o.answer) y)

-- ---- the writer

pub record Put (form : Form) (t : ℕ) (M : List ℕ) (k : ℕ) (P W C Q O : List ℕ) (len : ℕ) (O' : List ℕ) : Type 0 where
  pub sound : Sound form M k P W C Q
  pub whole : length (bytes_of (file_for form t M k P W C Q)) ≤ length O
  pub answer : len ≡ length (bytes_of (file_for form t M k P W C Q))
  pub out : O' ≡ written (bytes_of (file_for form t M k P W C Q)) O

pub write_accepted : {form : Form} {t : ℕ} {M : List ℕ} {k : ℕ} {P W C Q O : List ℕ} {len : ℕ} {O' : List ℕ} → writing (ok len) O' ≡ write_of form t M k P W C Q O → Put form t M k P W C Q O len O'
unfolding write_of checked
write_accepted {form} {t} {M} {k} {P} {W} {C} {Q} {O} {len} {O'} e = first (checked form t M k P W C Q (length O)) refl e
  where
    n : ℕ
    n = length M / 2

    F : File
    F = file_for form t M k P W C Q

    second : (G : File) → checked form t M k P W C Q (length O) ≡ ok G → writing (ok len) O' ≡ put (ok G) O → Put form t M k P W C Q O len O'
    second G w q =
        let h3 = unless_ok 3 (eqb (length M % 2) 0) _ w in
        let h2 = unless_ok 2 (leb n most_marks) _ h3.1 in
        let h4 = unless_ok 4 (room form n k (length P) (length W) (length C) (length Q) && leb (length (bytes_of F)) (length O)) _ h2.1 in
        let h9 = unless_ok 9 (fewer k n && marks_fit form n k P W) (ok F) h4.1 in
        let g : F ≡ G = cc in
        let p : writing (ok len) O' ≡ put (ok F) O = rw g q in
        let a : ok len ≡ ok (length (bytes_of F)) = ap (λ (o : Writing). o.answer) p in
        let e : len ≡ length (bytes_of F) = cc in
        let r = split _ _ h4.0 in
        let f = split _ _ h9.0 in
        let m = split _ _ f.1 in
        record {
          sound = record { even = eqb-true _ _ h3.0; few = leb-true _ _ h2.0; places = places _ _ _ _ _ _ _ r.0; fewer = f.0; firsts = m.0; worsts = m.1 };
          whole = leb-true _ _ r.1;
          answer = e;
          out = ap (λ (o : Writing). o.out) p;
        }

    first : (a : Answer File) → checked form t M k P W C Q (length O) ≡ a → writing (ok len) O' ≡ put (checked form t M k P W C Q (length O)) O → Put form t M k P W C Q O len O'
    first (ok G) x q = second G x (rw x at q)
    first (refused m) x q = let y : writing (ok len) O' ≡ put (refused m) O = rw x at q in not_refused m (ap (λ (o : Writing). o.answer) y)
