-- The bytes of a whole file: kinds 1 and 2, and what follows. Assumes nothing.
use mathlib.Core.Path.{◌≡◌, refl, ◌∙◌}
use mathlib.Core.List.{List, [], ◌∷◌, ◌++◌, append-nil}
use Prim.Native.Nat.{ℕ, zero, suc, ◌+◌, ◌*◌, ◌<◌}
use native.Mathlib.Omega.{arith}
use borrow.Author.Tests.{ne_eqb}
use lib.ListN.{length, length-append}
use Rattle.form.specs.declared.Form.{Form}
use Rattle.form.specs.Form.{width}
use Rattle.house.specs.declared.sizes.Field.{Field}
use Rattle.house.specs.Limits.{field_for, worst_marks, curve_bytes}
use Rattle.house.specs.Bytes.{le, les}
use Rattle.house.specs.File.{File, rec, framed, flat, curve_records, fit_records, records_of, bytes_of, field_in}
use Rattle.house.specs.Layout.{size_for}
use Rattle.house.proofs.Forms.{worsts-each}
use Rattle.house.proofs.Numbers.{length-le}
use Rattle.house.proofs.Rows.{length-les}
use Rattle.grammar.proofs.Records.{flat_append, length-framed}
use Rattle.grammar.proofs.Curves.{length-flat}
use Rattle.grammar.proofs.Formed.{Sized, field_is, params_some}

pub bytes_are : (F : File) → bytes_of F ≡ framed (rec 1 (le 8 F.tolerance)) ++ (framed (rec 2 (les F.marks)) ++ flat (fit_records F.form (field_in F) F.firsts F.worsts F.curves F.params))
unfolding flat records_of
bytes_are F = refl

module _ (form : Form) (field : Field) where
  pub rest_none : (P W C Q : List ℕ) → length P ≡ 0 → flat (fit_records form field P W C Q) ≡ []
  unfolding flat fit_records
  rest_none [] W C Q h = refl
  rest_none (p ∷ P) W C Q h = absurd (omega arith)

  pub rest_some : (P W C Q : List ℕ) → 0 < length P → flat (fit_records form field P W C Q) ≡ flat (curve_records form field P W C) ++ framed (rec 4 (les Q))
  unfolding flat fit_records
  rest_some [] W C Q h = absurd (omega arith)
  rest_some (p ∷ P) W C Q h = flat_append (curve_records form field (p ∷ P) W C) (rec 4 (les Q) ∷ []) ∙ rw append-nil

-- the records of a file's curves, by the lengths of the lists alone
pub length_records : (field : Field) {F : File} {n k : ℕ} → Sized F n k → length (flat (curve_records F.form field F.firsts F.worsts F.curves)) ≡ curve_bytes F.form field * k
length_records field {F} {n} {k} s =
    let w : length F.worsts ≡ worst_marks F.form * length F.firsts = rw s.firsts (s.worsts ∙ worsts-each F.form k) in
    let c : length F.curves ≡ width F.form * length F.firsts = rw s.firsts s.curves in
    length-flat F.form field F.firsts F.worsts F.curves w c ∙ rw s.firsts

-- how many bytes there are, by the lengths of the lists alone
pub length_start : (t n : ℕ) (M r : List ℕ) → length M ≡ 2 * n → length (framed (rec 1 (le 8 t)) ++ (framed (rec 2 (les M)) ++ r)) ≡ 20 + 16 * n + length r
length_start t n M r h = simp (length-append, length-le, length-les, h) (omega arith)

pub length-bytes : {F : File} {n k : ℕ} → Sized F n k → length (bytes_of F) ≡ size_for F.form n k
length-bytes {F} {n} {k} s = rw (bytes_are F, field_is s, length_start F.tolerance n F.marks R s.marks) (go k s)
  where
    R : List ℕ
    R = flat (fit_records F.form (field_for n) F.firsts F.worsts F.curves F.params)

    go : (k : ℕ) → Sized F n k → 20 + 16 * n + length R ≡ size_for F.form n k
    go zero s = rw (rest_none F.form (field_for n) F.firsts F.worsts F.curves F.params s.firsts) (omega arith)
    go (suc k) s =
        let q : length F.params ≡ n = s.params ∙ params_some n {k = suc k} (omega arith) in
        let p : length (framed (rec 4 (les F.params))) ≡ 6 + 8 * n = length-framed 4 (les F.params) ∙ rw (length-les, q) in
        let e : length R ≡ curve_bytes F.form (field_for n) * suc k + (6 + 8 * n) =
        rw (rest_some F.form (field_for n) F.firsts F.worsts F.curves F.params (rw s.firsts (omega arith)), length-append, length_records (field_for n) s, p) in
        rw (e, ne_eqb (suc k) 0 (λ z. omega arith)) (omega arith)
