-- The round trips of 01: over the definition of the format, and of what the reader and the writer promise. Assumes nothing.
use mathlib.Core.Path.{◌≡◌, refl, sym, ap, ◌∙◌}
use mathlib.Core.Bool.{Bool, true, false}
use mathlib.Core.List.{List, ◌++◌}
use Prim.Native.Nat.{ℕ, ◌*◌, ◌/◌, ◌<◌, ◌≤◌, ◌^◌}
use native.Mathlib.Omega.{arith}
use lib.ListN.{length, take, drop, length-append}
use lib.Seq.{take_at}
use Rattle.float.specs.Answer.{Answer, ok}
use Rattle.form.specs.declared.Form.{Form}
use Rattle.form.specs.Form.{width, worsts_for}
use Rattle.std.proofs.Common.{Result, Ok}
use Rattle.float.specs.Refusal.{answer}
use Rattle.float.specs.declared.refusal.Refusal.{Refusal}
use Rattle.house.specs.Bytes.{all_fit}
use Rattle.house.specs.File.{File, Holds, bytes_of, marks_in, curves_in, form_for, params_for, well_formed}
use Rattle.house.specs.Held.{candidate, is_file, file_of}
use Rattle.packed.specs.Packed.{packed_bytes, Packs}
use Rattle.packed.specs.Unpacked.{packed_candidate, packed_of, held_of}
use Rattle.packed.proofs.Candidate.{packed_is, file_packs, Stored, twice, once, stored_formed, stored_held}
use Rattle.float.specs.Slices.{written}
use Rattle.house.specs.Slices.{room}
use Rattle.reader.specs.declared.Found.{Found}
use Rattle.reader.specs.Reader.{Outcome, outcome, read_of}
use Rattle.writer.specs.Writer.{file_for, Writing, writing, write_of}
use Rattle.trips.specs.Trips.{given, rewritten, OneEncoding}
use Rattle.house.proofs.Forms.{form_some, worsts-formed, width-formed, suits-formed}
use Rattle.house.proofs.Numbers.{fit-take}
use Rattle.grammar.proofs.Formed.{Turn, plain, full, Formed, formed, turn, turning, forming}
use Rattle.grammar.proofs.Rooms.{Places, places}
use Rattle.grammar.proofs.Grammar.{holds_file, file_holds, only}
use Rattle.grammar.proofs.Candidate.{holds_candidate, candidate_holds, candidate_is}
use Rattle.float.proofs.Truth.{true-false}
use Rattle.writer.proofs.Accepted.{Sound, write_accepts}
use Rattle.trips.proofs.Accepted.{Taken, read_accepts, read-accepted, write_accepted}
use Rattle.writer.proofs.Puts.{sized_for}

-- ---- over the definition of the format

-- a well formed file's bytes are read as that file
pub file-bytes-file : (F : File) → well_formed F ≡ true → file_of (bytes_of F) ≡ ok F
file-bytes-file F h = holds_file (record { formed = h; bytes = refl })

-- and bytes that are read as a file are that file's bytes
pub bytes-file-bytes : (b : List ℕ) (F : File) → file_of b ≡ ok F → bytes_of F ≡ b
bytes-file-bytes b F e = (file_holds e).bytes

-- so what is read from two byte strings as the same file is the same bytes
pub file_alike : (b c : List ℕ) (F : File) → file_of b ≡ ok F → file_of c ≡ ok F → b ≡ c
file_alike b c F e g = sym (bytes-file-bytes b F e) ∙ bytes-file-bytes c F g

-- ---- of the promises

front-written : (xs l : List ℕ) → take (length xs) (written xs l) ≡ xs
front-written xs l = take_at xs (drop (length xs) l) (length xs) refl

long_written : (xs l : List ℕ) → length xs ≤ length (written xs l)
long_written xs l = simp length-append (omega arith)

-- what is written is well formed
module _ {form : Form} {t : ℕ} {M : List ℕ} {k : ℕ} {P W C Q : List ℕ} (s : Sound form M k P W C Q) where
  formed_for : t < 256 ^ 8 → all_fit 8 M ≡ true → all_fit 8 C ≡ true → all_fit 8 Q ≡ true → Formed (file_for form t M k P W C Q) (length M / 2) k
  unfolding file_for
  formed_for ht hm hc hq = record {
    sized = sized_for form t M k P W C Q s.even s.places;
    way = turn (form_for form k) (length M / 2) k (suits-formed form k) s.fewer;
    few = omega (arith, s.few);
    fit = record { tolerance = ht; marks = hm; firsts = s.firsts; worsts = s.worsts; curves = fit-take 8 (width form * k) C hc; params = fit-take 8 (params_for (length M / 2) k) Q hq };
  }

-- what a reader is to give back: the form, the tolerance, the counts, and the numbers in front
pub record Returned (form : Form) (t : ℕ) (M : List ℕ) (k : ℕ) (P W C Q : List ℕ) (a : Answer Found) (M₀ P₀ W₀ C₀ Q₀ M' P' W' C' Q' : List ℕ) : Type 0 where
  pub answer : a ≡ ok (record { form = form_for form k; tolerance = t; marks = length M / 2; curves = k })
  pub marks : M' ≡ written M M₀
  pub firsts : P' ≡ written (take k P) P₀
  pub worsts : W' ≡ written (take (worsts_for form k) W) W₀
  pub curves : C' ≡ written (take (width form * k) C) C₀
  pub params : Q' ≡ written (take (params_for (length M / 2) k) Q) Q₀

-- room by the form as given is room by the form as stored
places-formed : (form : Form) (n k p w c q : ℕ) → Places form n k p w c q → Places (form_for form k) n k p w c q
places-formed form n k p w c q s = record {
  firsts = s.firsts;
  worsts = omega (arith, worsts-formed form k, s.worsts);
  curves = omega (arith, width-formed form k, s.curves);
  params = s.params;
}

-- written then read: the same numbers, bit for bit
pub written-then-read : (form : Form) (t : ℕ) (M : List ℕ) (k : ℕ) (P W C Q O M₀ P₀ W₀ C₀ Q₀ : List ℕ) (len : ℕ) (O' : List ℕ) (r : Result Found Refusal) (M' P' W' C' Q' : List ℕ)
    → t < 2 ^ 64
    → all_fit 8 M ≡ true
    → all_fit 8 C ≡ true
    → all_fit 8 Q ≡ true
    → writing (answer (Ok len)) O' ≡ write_of form t M k P W C Q O
    → length M ≤ length M₀
    → room form (length M / 2) k (length P₀) (length W₀) (length C₀) (length Q₀) ≡ true
    → outcome (answer r) M' P' W' C' Q' ≡ read_of (take len O') M₀ P₀ W₀ C₀ Q₀
    → Returned form t M k P W C Q (answer r) M₀ P₀ W₀ C₀ Q₀ M' P' W' C' Q'
unfolding file_for
written-then-read form t M k P W C Q O M₀ P₀ W₀ C₀ Q₀ len O' r M' P' W' C' Q' ht hm hc hq w long roomy e =
    let p = write_accepted w in
    let F : File = file_for form t M k P W C Q in
    let f = formed_for {t = t} p.sound ht hm hc hq in
    let b : take len O' ≡ bytes_of F = rw (p.out, p.answer) (front-written (bytes_of F) O) in
    let h : Holds (take len O') F = record { formed = forming f; bytes = sym b } in
    let ek : curves_in F ≡ k = f.sized.firsts in
    let s = places form (length M / 2) k (length P₀) (length W₀) (length C₀) (length Q₀) roomy in
    let taken : Taken F M₀ P₀ W₀ C₀ Q₀ = record { few = p.sound.few; marks = long; places = rw ek (places-formed form (length M / 2) k (length P₀) (length W₀) (length C₀) (length Q₀) s) } in
    let q = e ∙ read_accepts (twice h) taken in
    record {
      answer = ap (λ (o : Outcome). o.answer) q ∙ rw ek;
      marks = ap (λ (o : Outcome). o.marks) q;
      firsts = ap (λ (o : Outcome). o.firsts) q;
      worsts = ap (λ (o : Outcome). o.worsts) q;
      curves = ap (λ (o : Outcome). o.curves) q;
      params = ap (λ (o : Outcome). o.params) q;
    }

-- the form that a well formed file has is the one that its curves give
formed-form : {form : Form} {n k : ℕ} → Turn form n k → form_for form k ≡ form
formed-form {form} {n} {k} (plain e z) = rw (e, z)
formed-form {form} {n} {k} (full some few) = form_some form some

-- read then written: the bytes of what was read
module _ {M P W C Q : List ℕ} {F : File} (w : well_formed F ≡ true) (s : Taken F M P W C Q) (O : List ℕ) (l : length (bytes_of F) ≤ length O) where
  written-again : write_of F.form F.tolerance (take (2 * marks_in F) (written F.marks M)) (curves_in F) (written F.firsts P) (written F.worsts W) (written F.curves C) (written F.params Q) O ≡ writing (ok (length (bytes_of F))) (written (bytes_of F) O)
  unfolding file_for
  written-again =
      let f = formed F w in
      let em : take (2 * marks_in F) (written F.marks M) ≡ F.marks = rw (← f.sized.marks) (front-written F.marks M) in
      let ep : take (curves_in F) (written F.firsts P) ≡ F.firsts = front-written F.firsts P in
      let ew : take (worsts_for F.form (curves_in F)) (written F.worsts W) ≡ F.worsts = rw (← f.sized.worsts) (front-written F.worsts W) in
      let ec : take (width F.form * curves_in F) (written F.curves C) ≡ F.curves = rw (← f.sized.curves) (front-written F.curves C) in
      let eq : take (params_for (marks_in F) (curves_in F)) (written F.params Q) ≡ F.params = rw (← f.sized.params) (front-written F.params Q) in
      let ef : form_for F.form (curves_in F) ≡ F.form = formed-form f.way in
      let G : File = file_for F.form F.tolerance F.marks (curves_in F) (written F.firsts P) (written F.worsts W) (written F.curves C) (written F.params Q) in
      let same : G ≡ F = simp (ef, ep, ew, ec, eq) in
      let bytes : bytes_of G ≡ bytes_of F = ap bytes_of same in
      let sound : Sound F.form F.marks (curves_in F) (written F.firsts P) (written F.worsts W) (written F.curves C) (written F.params Q) =
      record {
        even = omega (arith, f.sized.marks);
        few = s.few;
        places = record {
          firsts = long_written F.firsts P;
          worsts = omega (arith, f.sized.worsts, long_written F.worsts W);
          curves = omega (arith, f.sized.curves, long_written F.curves C);
          params = omega (arith, f.sized.params, long_written F.params Q);
        };
        fewer = turning f.way;
        firsts = rw ep f.fit.firsts;
        worsts = rw ew f.fit.worsts;
      } in
      rw em (rw bytes at (write_accepts F.tolerance O sound (rw bytes l)))

-- the file that bytes are, by its form
same_held : (b : List ℕ) {F : File} → held_of b ≡ ok F → is_file b ≡ true → candidate b ≡ F
unfolding held_of
same_held b {F} e t = let q : ok (candidate b) ≡ ok F = rw t at e in cc

once-held : (b : List ℕ) {F : File} → held_of b ≡ ok F → is_file b ≡ false → packed_candidate b ≡ F
unfolding held_of
once-held b {F} e t = let q : packed_of b ≡ ok F = rw t at e in packed_is (file_packs q)

packs_of : {b : List ℕ} {F : File} → Stored b F → is_file b ≡ false → Packs b F
packs_of (once p) t = p
packs_of (twice h) t = absurd (true-false _ (candidate_holds (rw (candidate_is h) h)) t)

-- they are its own where its joints stand twice
stored_again : {b : List ℕ} {F : File} → Stored b F → bytes_of F ≡ rewritten b
stored_again {b} {F} h = go (is_file b) refl
  where
    go : (t : Bool) → is_file b ≡ t → bytes_of F ≡ rewritten b
    go true t = let e : candidate b ≡ F = same_held b (stored_held h) t in rw t (ap bytes_of (sym e) ∙ (holds_candidate t).bytes)
    go false t = let e : packed_candidate b ≡ F = once-held b (stored_held h) t in rw (t, e)

rewrites : (b M P W C Q O : List ℕ) (form : Form) (t n k : ℕ) (M' P' W' C' Q' : List ℕ)
    → outcome (answer (Ok (record { form = form; tolerance = t; marks = n; curves = k }))) M' P' W' C' Q' ≡ read_of b M P W C Q
    → length (rewritten b) ≤ length O
    → write_of form t (take (2 * n) M') k P' W' C' Q' O ≡ writing (ok (length (rewritten b))) (written (rewritten b) O)
rewrites b M P W C Q O form t n k M' P' W' C' Q' e l =
    let a = read-accepted e in
    let F : File = a.file in
    let eo : form ≡ F.form = ap (λ (f : Found). f.form) a.answer in
    let et : t ≡ F.tolerance = ap (λ (f : Found). f.tolerance) a.answer in
    let en : n ≡ marks_in F = ap (λ (f : Found). f.marks) a.answer in
    let ek : k ≡ curves_in F = ap (λ (f : Found). f.curves) a.answer in
    let z : bytes_of F ≡ rewritten b = stored_again a.stored in
    (λ i. write_of (eo i) (et i) (take (2 * en i) (a.marks i)) (ek i) (a.firsts i) (a.worsts i) (a.curves i) (a.params i) O)
    ∙ written-again (stored_formed a.stored) a.taken O (rw z l)
    ∙ ap (λ (x : List ℕ). writing (ok (length x)) (written x O)) z

pub read-then-written : (b M P W C Q O : List ℕ) (form : Form) (t n k : ℕ) (M' P' W' C' Q' : List ℕ) (w : Result ℕ Refusal) (O' : List ℕ)
    → outcome (answer (Ok (record { form = form; tolerance = t; marks = n; curves = k }))) M' P' W' C' Q' ≡ read_of b M P W C Q
    → length (rewritten b) ≤ length O
    → writing (answer w) O' ≡ write_of form t (take (2 * n) M') k P' W' C' Q' O
    → (answer w ≡ ok (length (rewritten b))) × (O' ≡ written (rewritten b) O)
read-then-written b M P W C Q O form t n k M' P' W' C' Q' w O' e l q =
    let y = q ∙ rewrites b M P W C Q O form t n k M' P' W' C' Q' e l in
    (ap (λ (o : Writing). o.answer) y, ap (λ (o : Writing). o.out) y)

-- packed bytes of one file are the same bytes
once-bytes : {b : List ℕ} {F : File} → Stored b F → is_file b ≡ false → Packs b (packed_candidate b)
once-bytes {b} {F} h t = let e : packed_candidate b ≡ F = once-held b (stored_held h) t in rw e (packs_of h t)

packed_alike : {b c : List ℕ} {F G : File} → Stored b F → Stored c G → is_file b ≡ false → is_file c ≡ false → bytes_of (packed_candidate b) ≡ bytes_of (packed_candidate c) → b ≡ c
packed_alike {b} {c} f g x y e =
    let p = once-bytes f x in
    let q = once-bytes g y in
    let s : packed_candidate b ≡ packed_candidate c = only (record { formed = p.formed; bytes = e }) (record { formed = q.formed; bytes = refl }) in
    sym p.bytes ∙ ap packed_bytes s ∙ q.bytes

-- what is read alike is written again alike
written_alike : (b c M P W C Q N R X D S : List ℕ) (form : Form) (t n k : ℕ) (M' P' W' C' Q' : List ℕ)
    → outcome (given form t n k) M' P' W' C' Q' ≡ read_of b M P W C Q → outcome (given form t n k) M' P' W' C' Q' ≡ read_of c N R X D S → rewritten b ≡ rewritten c
written_alike b c M P W C Q N R X D S form t n k M' P' W' C' Q' e g =
    let x' : List ℕ = rewritten b in
    let y' : List ℕ = rewritten c in
    let O : List ℕ = x' ++ y' in
    let lb : length x' ≤ length O = simp length-append (omega arith) in
    let lc : length y' ≤ length O = simp length-append (omega arith) in
    let x = rewrites b M P W C Q O form t n k M' P' W' C' Q' e lb in
    let y = rewrites c N R X D S O form t n k M' P' W' C' Q' g lc in
    let z : writing (ok (length x')) (written x' O) ≡ writing (ok (length y')) (written y' O) = sym x ∙ y in
    let a : ok (length x') ≡ ok (length y') = ap (λ (w : Writing). w.answer) z in
    let l : length x' ≡ length y' = cc in
    sym (front-written x' O) ∙ ap (λ (x : ℕ). take x (written x' O)) l ∙ ap (λ (w : Writing). take (length y') w.out) z ∙ front-written y' O

-- each outline has one encoding in each form: what was read is what is written again, or that packed
pub one_encoding : OneEncoding
one_encoding b c M P W C Q N R X D S form t n k M' P' W' C' Q' e g both = go (is_file b) refl
  where
    alike : rewritten b ≡ rewritten c
    alike = written_alike b c M P W C Q N R X D S form t n k M' P' W' C' Q' e g

    go : (r : Bool) → is_file b ≡ r → b ≡ c
    go true r = rw (r, sym both ∙ r) at alike
    go false r = packed_alike (read-accepted e).stored (read-accepted g).stored r (sym both ∙ r) (rw (r, sym both ∙ r) at alike)
