-- What a file that was opened tells, and one that was refused. Assumes nothing.
use mathlib.Core.Path.{◌≡◌, refl, sym, ap, ◌∙◌}
use mathlib.Core.Bool.{Bool, true, false, cond}
use mathlib.Core.List.{List}
use Prim.Native.Nat.{ℕ, ◌*◌, ◌<◌, ◌≤◌}
use native.Mathlib.Omega.{arith}
use borrow.Author.Tests.{leb-true, leb-false, le-leb, lt-leb}
use lib.Dec.{leb}
use lib.ListN.{length, take, length-take}
use Rattle.float.specs.Answer.{Answer, ok, refused, unless, ◌>>=◌}
use Rattle.float.specs.Slices.{written}
use Rattle.form.specs.Form.{width, worsts_for}
use Rattle.form.specs.declared.Form.{Form}
use Rattle.form.specs.declared.Form.TheVariants.{Eight, Nine}
use Rattle.limits.specs.Limits.{most_marks}
use Rattle.house.specs.File.{File, marks_in, curves_in, params_for}
use Rattle.house.specs.Held.{candidate, is_file}
use Rattle.packed.specs.Unpacked.{packed_candidate, is_packed, packed_of, held_of}
use Rattle.std.proofs.Common.{Result, Ok, Err}
use Rattle.std.specs.Result.{MatchResult, IsErrAnd}
use Rattle.std.proofs.lemmas.Result.{err_from_is_err_and}
use Rattle.float.specs.Refusal.{answer, number}
use Rattle.float.specs.declared.refusal.Refusal.{Refusal}
use Rattle.reader.specs.declared.Found.{Found}
use Rattle.reader.specs.Reader.{found_in, Outcome, outcome, within, judged, settled, read_of}
use Rattle.float.proofs.Answers.{not_refused, unless_ok}
use Rattle.grammar.proofs.Formed.{Turn, plain, full, Sized, Formed, formed, params_some}
use Rattle.grammar.proofs.Rooms.{Places, placing}
use Rattle.packed.proofs.Candidate.{Stored, held_stored, stored_formed}
use Rattle.limits.specs.Limits.{most_read}
use Rattle.desk.specs.Desk.{room_marks, Roomy, file_in, crowded_as}
use Rattle.desk.proofs.Numbers.{front}

-- ---- the call

pub too_long : (b : List ℕ) {M P W C Q : List ℕ} → most_read < length b → outcome (refused 9) M P W C Q ≡ settled (file_in b) M P W C Q
unfolding file_in
too_long b h = rw (lt-leb (length b) most_read h)

-- a file of at most 4,096 marks
abbrev few : File → Answer File
few F = unless 2 (leb (marks_in F) room_marks) (ok F)

-- a list of up to 4,095 curves, in either form
list_within : (form : Form) (k : ℕ) → k ≤ 4095 → (worsts_for form k ≤ 4095) × (width form * k ≤ 36855)
list_within Eight k h = (omega arith, omega arith)
list_within Nine k h = (omega arith, omega arith)

none_within : (form : Form) {k : ℕ} → k ≡ 0 → (worsts_for form k ≤ 4095) × (width form * k ≤ 36855)
none_within form {k} z = list_within form k (omega arith)

places_for : (F : File) → Sized F (marks_in F) (curves_in F) → Turn F.form (marks_in F) (curves_in F) → marks_in F ≤ 4096 → Places F.form (marks_in F) (curves_in F) 4095 4095 36855 4096
places_for F s (plain e z) h = record { firsts = omega arith; worsts = (none_within F.form z).0; curves = (none_within F.form z).1; params = rw z (omega arith) }
places_for F s (full some less) h =
    let b = list_within F.form (curves_in F) (omega arith) in
    record { firsts = omega arith; worsts = b.0; curves = b.1; params = rw (params_some (marks_in F) some) h }

-- the reader's answer, with that room: 4 is for more marks
abbrev moved : Answer File → Answer File
moved (ok F) = ok F
moved (refused q) = refused (crowded_as q)

held : (F : File) → Sized F (marks_in F) (curves_in F) → Turn F.form (marks_in F) (curves_in F) → few F ≡ moved (within F 8192 4095 4095 36855 4096)
held F s w = go (leb (marks_in F) room_marks) refl
  where
    many : (b : Bool) → leb (marks_in F) most_marks ≡ b → room_marks < marks_in F → refused 2 ≡ moved (within F 8192 4095 4095 36855 4096)
    many true e h = simp (e, lt-leb (length F.marks) 8192 (omega (arith, s.marks)))
    many false e h = rw e

    go : (b : Bool) → leb (marks_in F) room_marks ≡ b → few F ≡ moved (within F 8192 4095 4095 36855 4096)
    go true e =
        let h : marks_in F ≤ room_marks = leb-true _ _ e in
        let m : length F.marks ≤ 8192 = omega (arith, s.marks) in
        simp (e, le-leb (marks_in F) most_marks (omega arith), le-leb (length F.marks) 8192 m, placing (places_for F s w h))
    go false e = rw e (many (leb (marks_in F) most_marks) refl (leb-false _ _ e))

-- bytes that are no file are refused by 9
no_other : (b : List ℕ) {q : ℕ} → held_of b ≡ refused q → q ≡ 9
unfolding held_of packed_of
no_other b {q} e = go (is_file b) (is_packed b) e
  where
    go : (s t : Bool) → cond s (ok (candidate b)) (unless 9 t (ok (packed_candidate b))) ≡ refused q → q ≡ 9
    go true t x = not_refused q x
    go false true x = not_refused q x
    go false false x = cc

read_as : (b : List ℕ) → length b ≤ most_read → file_in b ≡ moved (judged b 8192 4095 4095 36855 4096)
unfolding file_in judged
read_as b h = rw (le-leb (length b) most_read h) (go (held_of b) refl)
  where
    go : (a : Answer File) → held_of b ≡ a → ◌>>=◌ a few ≡ moved (◌>>=◌ a (λ F. within F 8192 4095 4095 36855 4096))
    go (ok F) x = let f = formed F (stored_formed (held_stored x)) in held F f.sized f.way
    go (refused q) x = rw (no_other b x)

module _ (b M P W C Q : List ℕ) (r : Result Found Refusal) {M' P' W' C' Q' : List ℕ} (h : length b ≤ most_read) (y : Roomy M P W C Q) (e : outcome (answer r) M' P' W' C' Q' ≡ read_of b M P W C Q) where
  lent : outcome (answer r) M' P' W' C' Q' ≡ settled (judged b 8192 4095 4095 36855 4096) M P W C Q
  unfolding read_of
  lent = e ∙ rw (y.marks, y.firsts, y.worsts, y.curves, y.params)

  pub file-read : {f : Found} → r ≡ Ok f → outcome (answer (Ok f)) M' P' W' C' Q' ≡ settled (file_in b) M P W C Q
  file-read {f} i = rw (read_as b h) (go (judged b 8192 4095 4095 36855 4096) (rw i at lent))
    where
      go : (a : Answer File) → outcome (ok f) M' P' W' C' Q' ≡ settled a M P W C Q → outcome (ok f) M' P' W' C' Q' ≡ settled (moved a) M P W C Q
      go (ok F) x = x
      go (refused q) x = not_refused q (ap (λ (o : Outcome). o.answer) x)

  pub file-refused : (q p : Refusal) → r ≡ Err q → number p ≡ crowded_as (number q) → outcome (answer (Err p)) M' P' W' C' Q' ≡ settled (file_in b) M P W C Q
  file-refused q p i z = rw (read_as b h) (go (judged b 8192 4095 4095 36855 4096) (rw i at lent))
    where
      go : (a : Answer File) → outcome (refused (number q)) M' P' W' C' Q' ≡ settled a M P W C Q → outcome (refused (number p)) M' P' W' C' Q' ≡ settled (moved a) M P W C Q
      go (ok F) x = not_refused (number q) (sym (ap (λ (o : Outcome). o.answer) x))
      go (refused s) x =
          let a : ◌≡◌ {A = Answer Found} (refused (number q)) (refused s) = ap (λ (o : Outcome). o.answer) x in
          let g : number q ≡ s = cc in
          let u : number p ≡ crowded_as s = z ∙ ap crowded_as g in
          rw u (λ i. outcome (refused (crowded_as s)) (x i).marks (x i).firsts (x i).worsts (x i).curves (x i).params)

-- what the reader said, with its refusal for want of room moved
pub opened_as : (b M P W C Q : List ℕ) (r s : Result Found Refusal) {M' P' W' C' Q' : List ℕ} → length b ≤ most_read → Roomy M P W C Q → outcome (answer r) M' P' W' C' Q' ≡ read_of b M P W C Q
    → MatchResult r (λ f. s ≡ Ok f) (λ q. IsErrAnd s (λ p. number p ≡ crowded_as (number q))) → outcome (answer s) M' P' W' C' Q' ≡ settled (file_in b) M P W C Q
opened_as b M P W C Q (Ok f) s h y e m = rw m (file-read b M P W C Q (Ok f) h y e refl)
opened_as b M P W C Q (Err q) s h y e m = let p = err_from_is_err_and s m in rw p.1 (file-refused b M P W C Q (Err q) h y e q p.0 refl p.2)

-- ---- what it tells

record Within (b : List ℕ) (F : File) : Type 0 where
  stored : Stored b F
  few : marks_in F ≤ room_marks

within_file : {b : List ℕ} {F : File} → file_in b ≡ ok F → Within b F
unfolding file_in
within_file {b} {F} e = let u = unless_ok 9 (leb (length b) most_read) (◌>>=◌ (held_of b) few) e in go (held_of b) refl u.1
  where
    go : (a : Answer File) → held_of b ≡ a → ◌>>=◌ a few ≡ ok F → Within b F
    go (ok G) x y =
        let u = unless_ok 2 (leb (marks_in G) room_marks) (ok G) y in
        let g : G ≡ F = cc in
        let w : Within b G = record { stored = held_stored x; few = leb-true _ _ u.0 } in
        rw g at w
    go (refused q) x y = not_refused q (sym y)

-- a file that is taken is well formed, and has at most 4,096 marks
pub file-formed : (b : List ℕ) {F : File} → file_in b ≡ ok F → Formed F (marks_in F) (curves_in F) × (marks_in F ≤ room_marks)
file-formed b {F} e = let w = within_file e in (formed F (stored_formed w.stored), w.few)

-- a file's numbers stand in the first places
pub record Opened (b : List ℕ) (form : Form) (t n k : ℕ) (M' P' W' C' Q' : List ℕ) : Type 0 where
  pub file : File
  pub read : file_in b ≡ ok file
  pub shape : form ≡ file.form
  pub tolerance : t ≡ file.tolerance
  pub many : marks_in file ≡ n
  pub formed : Formed file n k
  pub few : n ≤ room_marks
  pub marks : take (2 * n) M' ≡ file.marks
  pub firsts : take k P' ≡ file.firsts
  pub worsts : take (worsts_for form k) W' ≡ file.worsts
  pub curves : take (width form * k) C' ≡ file.curves
  pub params : take (params_for n k) Q' ≡ file.params

same_counts : {b : List ℕ} {form form' : Form} {t n k t' n' k' : ℕ} {M' P' W' C' Q' : List ℕ} → form ≡ form' → t ≡ t' → n ≡ n' → k ≡ k' → Opened b form' t' n' k' M' P' W' C' Q' → Opened b form t n k M' P' W' C' Q'
same_counts f a e i o = rw (f, a, e, i) o

module _ (b M P W C Q : List ℕ) {M' P' W' C' Q' : List ℕ} where
  whole : (F : File) → file_in b ≡ ok F → M' ≡ written F.marks M → P' ≡ written F.firsts P → W' ≡ written F.worsts W → C' ≡ written F.curves C → Q' ≡ written F.params Q
      → Opened b F.form F.tolerance (marks_in F) (curves_in F) M' P' W' C' Q'
  whole F x eM eP e_w e_c eQ =
      let w = file-formed b x in
      let f = w.0 in
      record {
        file = F;
        read = x;
        shape = refl;
        tolerance = refl;
        many = refl;
        formed = f;
        few = w.1;
        marks = front _ _ _ eM f.sized.marks;
        firsts = front _ _ _ eP f.sized.firsts;
        worsts = front _ _ _ e_w f.sized.worsts;
        curves = front _ _ _ e_c f.sized.curves;
        params = front _ _ _ eQ f.sized.params;
      }

  pub opened : (f : Found) → outcome (ok f) M' P' W' C' Q' ≡ settled (file_in b) M P W C Q → Opened b f.form f.tolerance f.marks f.curves M' P' W' C' Q'
  opened f e = go (file_in b) refl e
    where
      go : (a : Answer File) → file_in b ≡ a → outcome (ok f) M' P' W' C' Q' ≡ settled a M P W C Q → Opened b f.form f.tolerance f.marks f.curves M' P' W' C' Q'
      go (ok F) x y =
          let a : ◌≡◌ {A = Answer Found} (ok f) (ok (found_in F)) = ap (λ (o : Outcome). o.answer) y in
          let i : f ≡ found_in F = cc in
          same_counts (ap (λ (f : Found). f.form) i) (ap (λ (f : Found). f.tolerance) i) (ap (λ (f : Found). f.marks) i) (ap (λ (f : Found). f.curves) i)
          (whole F x (ap (λ (o : Outcome). o.marks) y) (ap (λ (o : Outcome). o.firsts) y) (ap (λ (o : Outcome). o.worsts) y) (ap (λ (o : Outcome). o.curves) y) (ap (λ (o : Outcome). o.params) y))
      go (refused q) x y = not_refused q (ap (λ (o : Outcome). o.answer) y)

  -- one that was not read
  pub unopened : (q : ℕ) → outcome (refused q) M' P' W' C' Q' ≡ settled (file_in b) M P W C Q → file_in b ≡ refused q
  unopened q e = go (file_in b) refl e
    where
      go : (a : Answer File) → file_in b ≡ a → outcome (refused q) M' P' W' C' Q' ≡ settled a M P W C Q → file_in b ≡ refused q
      go (ok F) x y = not_refused q (sym (ap (λ (o : Outcome). o.answer) y))
      go (refused p) x y = let z : ◌≡◌ {A = Answer Found} (refused q) (refused p) = ap (λ (o : Outcome). o.answer) y in let s : q ≡ p = cc in rw s x

-- the front of a list is no longer than the list
front_within : (i : ℕ) (l : List ℕ) {m : List ℕ} → take i l ≡ m → length m ≡ i → i ≤ length l
front_within i l e h = let f = rw (← e, length-take) at h in omega arith

-- the marks are within their slice; and so is a list, if there is one
pub record Bounds (form : Form) (n k : ℕ) (P W C Q : List ℕ) : Type 0 where
  pub firsts : k ≤ length P
  pub worsts : worsts_for form k ≤ length W
  pub curves : width form * k ≤ length C
  pub params : n ≤ length Q

module _ {b : List ℕ} {form : Form} {t n k : ℕ} {M P W C Q : List ℕ} (o : Opened b form t n k M P W C Q) where
  pub marks_within : 2 * n ≤ length M
  marks_within = front_within (2 * n) M o.marks o.formed.sized.marks

  pub params_at : 0 < k → take n Q ≡ o.file.params
  params_at h = rw (params_some n h) at o.params

  pub bounds : 0 < k → Bounds form n k P W C Q
  bounds h = record {
    firsts = front_within k P o.firsts o.formed.sized.firsts;
    worsts = front_within (worsts_for form k) W o.worsts (o.formed.sized.worsts ∙ ap (λ (f : Form). worsts_for f k) (sym o.shape));
    curves = front_within (width form * k) C o.curves (o.formed.sized.curves ∙ ap (λ (f : Form). width f * k) (sym o.shape));
    params = front_within n Q (params_at h) (rw (params_some n h) at o.formed.sized.params);
  }
