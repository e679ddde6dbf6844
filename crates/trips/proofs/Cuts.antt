-- Bytes are cut into records in one way only. So records that are not a file's, a kind out of turn among them, are refused by 9. Assumes nothing.
use mathlib.Core.Path.{◌≡◌, refl, sym, ap, ◌∙◌}
use mathlib.Core.Bool.{Bool, true, false, cond}
use mathlib.Core.List.{List, [], ◌∷◌, ◌++◌}
use Prim.Native.Nat.{ℕ, zero, suc, ◌+◌, ◌*◌, ◌/◌, ◌<◌, ◌≤◌, ◌^◌}
use native.Mathlib.Omega.{arith}
use borrow.Author.Tests.{ltb-true}
use lib.Dec.{eqb}
use lib.ListN.{length, take, drop, get_or, length-append, length-drop}
use lib.Seq.{take_at, drop_at}
use Rattle.float.specs.Answer.{refused}
use Rattle.form.specs.declared.Form.{Form}
use Rattle.form.specs.Form.{width}
use Rattle.house.specs.declared.sizes.Field.{Field}
use Rattle.house.specs.Limits.{badly_formed, field_for, worst_marks, curve_kind, body_bytes}
use Rattle.house.specs.Bytes.{num, le, les}
use Rattle.house.specs.File.{Record, rec, framed, flat, File, body_of, curve_records, fit_records, records_of, field_in, marks_in, curves_in, params_for, well_formed}
use Rattle.reader.specs.Reader.{settled, read_of}
use Rattle.house.proofs.Forms.{body-few, worsts-each, kind-few}
use Rattle.house.proofs.Numbers.{length-le}
use Rattle.house.proofs.Rows.{length-les}
use Rattle.grammar.proofs.Records.{length-framed, framed_head, framed-body}
use Rattle.grammar.proofs.Curves.{length-body}
use Rattle.grammar.proofs.Formed.{Sized, Formed, formed, params_some}
use Rattle.packed.specs.Packed.{packed_kind, packed_body, packed_records}
use Rattle.packed.proofs.Candidate.{Stored, twice, once}
use Rattle.trips.proofs.Accepted.{refuses}

-- records whose kind and length fit their fields
pub data Framable : List Record → Type 0 where
  none : Framable []
  more : {r : Record} {rs : List Record} → r.kind < 256 ^ 2 → 2 + length r.body < 256 ^ 4 → Framable rs → Framable (r ∷ rs)

-- ---- one cut

-- the first record of two rows of bytes that are the same
record First (r s : Record) (R S : List ℕ) : Type 0 where
  record_is : r ≡ s
  rest_is : R ≡ S

first : (r s : Record) (R S : List ℕ) → r.kind < 256 ^ 2 → 2 + length r.body < 256 ^ 4 → s.kind < 256 ^ 2 → 2 + length s.body < 256 ^ 4 → framed r ++ R ≡ framed s ++ S → First r s R S
first r s R S hr lr hs ls e =
    let a = framed_head r.kind (2 + length r.body) r.body R refl lr hr in
    let b = framed_head s.kind (2 + length s.body) s.body S refl ls hs in
    let z : 2 + length r.body ≡ 2 + length s.body = sym a.size_is ∙ ap (λ (d : List ℕ). num 4 d 0) e ∙ b.size_is in
    let k : r.kind ≡ s.kind = sym a.kind_is ∙ ap (λ (d : List ℕ). num 2 d 4) e ∙ b.kind_is in
    let l : length r.body ≡ length s.body = omega arith in
    let t : r.body ++ R ≡ s.body ++ S =
    sym (framed-body r.kind (2 + length r.body) r.body R refl lr hr) ∙ ap (λ (d : List ℕ). drop 6 d) e ∙ framed-body s.kind (2 + length s.body) s.body S refl ls hs in
    let y : r.body ≡ s.body = sym (take_at r.body R (length s.body) l) ∙ ap (λ (d : List ℕ). take (length s.body) d) t ∙ take_at s.body S (length s.body) refl in
    record {
      record_is = λ i. record { kind = k i; body = y i };
      rest_is = sym (drop_at r.body R (length s.body) l) ∙ ap (λ (d : List ℕ). drop (length s.body) d) t ∙ drop_at s.body S (length s.body) refl;
    }

nonempty : (r : Record) (R : List ℕ) → [] ≡ framed r ++ R → ⊥
nonempty r R e = let z : 0 ≡ length (framed r ++ R) = ap length e in omega (arith, length-append (framed r) R, length-framed r.kind r.body)

pub one_cut : {rs ss : List Record} → Framable rs → Framable ss → flat rs ≡ flat ss → rs ≡ ss
unfolding flat
one_cut none none e = refl
one_cut none (more {r = s} {rs = ss} h l f) e = absurd (nonempty s (flat ss) e)
one_cut (more {r} {rs} h l f) none e = absurd (nonempty r (flat rs) (sym e))
one_cut (more {r} {rs} hr lr f) (more {r = s} {rs = ss} hs ls g) e =
    let c = first r s (flat rs) (flat ss) hr lr hs ls e in
    λ i. c.record_is i ∷ one_cut f g c.rest_is i

-- ---- a file's records can be framed

append : {rs ss : List Record} → Framable rs → Framable ss → Framable (rs ++ ss)
append none g = g
append (more h l f) g = more h l (append f g)

curves_framable : (form : Form) (field : Field) (P W C : List ℕ) → length W ≡ worst_marks form * length P → length C ≡ width form * length P → Framable (curve_records form field P W C)
unfolding curve_records
curves_framable form field [] W C hw hc = none
curves_framable form field (p ∷ P) W C hw hc =
    let l : length (body_of form field p W C) ≡ body_bytes form field = length-body form field p W C (omega arith) (omega arith) in
    more {r = rec (curve_kind form field) (body_of form field p W C)} (omega (arith, kind-few form field)) (omega (arith, l, body-few form field))
    (curves_framable form field P (drop (worst_marks form) W) (drop (width form) C) (simp length-drop (omega arith)) (simp length-drop (omega arith)))

pub framable : {F : File} {n k : ℕ} → Formed F n k → Framable (records_of F)
unfolding records_of fit_records
framable {F} {n} {k} f =
    more {r = rec 1 (le 8 F.tolerance)} (omega arith) (simp length-le (omega arith))
    (more {r = rec 2 (les F.marks)} (omega arith) (omega (arith, length-les F.marks, s.marks, f.few)) (rest F.firsts s.firsts))
  where
    s : Sized F n k
    s = f.sized

    rest : (P : List ℕ) → length P ≡ k → Framable (fit_records F.form (field_in F) P F.worsts F.curves F.params)
    rest [] h = none
    rest (p ∷ P) h =
        let some : 0 < k = omega arith in
        let q : length F.params ≡ n = s.params ∙ params_some n some in
        let w : length F.worsts ≡ worst_marks F.form * length (p ∷ P) = rw h (s.worsts ∙ worsts-each F.form k) in
        let c : length F.curves ≡ width F.form * length (p ∷ P) = rw h s.curves in
        append (curves_framable F.form (field_in F) (p ∷ P) F.worsts F.curves w c) (more {r = rec 4 (les F.params)} (omega arith) (omega (arith, length-les F.params, f.few)) none)

-- and so can a packed file's
params-few : (Q : List ℕ) (n k : ℕ) → length Q ≡ params_for n k → length Q ≤ n
params-few Q n zero e = omega arith
params-few Q n (suc k) e = omega (arith, params_some n {k = suc k} (omega arith))

packed_framable : {F : File} {n k : ℕ} → Formed F n k → 2 + length (packed_body F) < 256 ^ 4 → Framable (packed_records F)
unfolding packed_records
packed_framable {F} {n} {k} f short =
    more {r = rec 1 (le 8 F.tolerance)} (omega arith) (simp length-le (omega arith))
    (more {r = rec 2 (les F.marks)} (omega arith) (omega (arith, length-les F.marks, f.sized.marks, f.few)) (rest (eqb (curves_in F) 0)))
  where
    rest : (b : Bool) → Framable (cond b [] (rec 8 (packed_body F) ∷ (rec 4 (les F.params) ∷ [])))
    rest true = none
    rest false = more {r = rec 8 (packed_body F)} (omega arith) short (more {r = rec 4 (les F.params)} (omega arith) (omega (arith, length-les F.params, params-few F.params n k f.sized.params, f.few)) none)

-- ---- what is out of turn

pub out_of_turn : {rs : List Record} → Framable rs → ((F : File) → well_formed F ≡ true → records_of F ≡ rs → ⊥) → ((F : File) → well_formed F ≡ true → packed_records F ≡ rs → ⊥)
    → (M P W C Q : List ℕ) → read_of (flat rs) M P W C Q ≡ settled (refused badly_formed) M P W C Q
out_of_turn {rs} f never nor M P W C Q = refuses M P W C Q neither
  where
    neither : (F : File) → Stored (flat rs) F → ⊥
    neither F (twice h) = never F h.formed (one_cut (framable (formed F h.formed)) f h.bytes)
    neither F (once p) = nor F p.formed (one_cut (packed_framable (formed F p.formed) (ltb-true _ _ p.short)) f p.bytes)

-- behind the marks stands a curve's kind, or nothing
behind : (form : Form) (field : Field) (P W C Q : List ℕ) {kind : ℕ} {body : List ℕ} {rs : List Record} → fit_records form field P W C Q ≡ rec kind body ∷ rs → kind ≡ curve_kind form field
unfolding fit_records curve_records
behind form field [] W C Q {rs = rs} e = let z : 0 ≡ length (rec 0 [] ∷ rs) = ap length e in absurd (omega arith)
behind form field (p ∷ P) W C Q e = sym (ap (λ (l : List Record). (get_or l 0 (rec 0 [])).kind) e)

-- or that of all curves
packed_behind : (b : Bool) (r s : Record) {kind : ℕ} {body : List ℕ} {rs : List Record} → cond b [] (r ∷ (s ∷ [])) ≡ rec kind body ∷ rs → kind ≡ r.kind
packed_behind true r s {rs = rs} e = let z : 0 ≡ length (rec 0 [] ∷ rs) = ap length e in absurd (omega arith)
packed_behind false r s e = sym (ap (λ (l : List Record). (get_or l 0 (rec 0 [])).kind) e)

-- so a kind that is neither, for so many marks, is refused by 9
pub unsuited : (t M body : List ℕ) (kind : ℕ) (rs : List Record) → Framable (rec 1 t ∷ (rec 2 (les M) ∷ (rec kind body ∷ rs)))
    → ((form : Form) → kind ≡ curve_kind form (field_for (length M / 2)) → ⊥) → (kind ≡ packed_kind → ⊥) → (N P W C Q : List ℕ)
    → read_of (flat (rec 1 t ∷ (rec 2 (les M) ∷ (rec kind body ∷ rs)))) N P W C Q ≡ settled (refused badly_formed) N P W C Q
unfolding records_of packed_records
unsuited t M body kind rs f never nor =
    out_of_turn f
    (λ F h e.
    let m : les F.marks ≡ les M = ap (λ (l : List Record). (get_or l 1 (rec 0 [])).body) e in
    let l : 8 * length F.marks ≡ 8 * length M = sym (length-les F.marks) ∙ ap length m ∙ length-les M in
    let n : marks_in F ≡ length M / 2 = omega arith in
    let k : kind ≡ curve_kind F.form (field_in F) = behind F.form (field_in F) F.firsts F.worsts F.curves F.params (ap (drop 2) e) in
    never F.form (k ∙ ap (λ (x : ℕ). curve_kind F.form (field_for x)) n))
    (λ F h e. nor (packed_behind (eqb (curves_in F) 0) (rec 8 (packed_body F)) (rec 4 (les F.params)) (ap (drop 2) e)))
