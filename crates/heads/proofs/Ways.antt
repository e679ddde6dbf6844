-- What each way through the search for a layout answers. Assumes nothing.
use mathlib.Core.Path.{◌≡◌, refl, sym, ap}
use mathlib.Core.Bool.{Bool, true, false, cond}
use mathlib.Core.List.{List}
use Prim.Native.Nat.{ℕ, ◌+◌, ◌*◌, ◌<◌}
use borrow.Author.Tests.{eq-eqb, lt-ltb}
use lib.ListN.{length, drop}
use Rattle.float.proofs.Truth.{not_so}
use Rattle.form.specs.declared.Form.{Form}
use Rattle.house.specs.declared.sizes.Field.{Field}
use Rattle.house.specs.Limits.{field_for, curve_kind, body_bytes, curve_bytes}
use Rattle.house.specs.Bytes.{num, all_fit}
use Rattle.house.specs.Held.{marks_held, form_of, form_held, curves_held, is_file}
use Rattle.house.specs.Layout.{head_at, records_lead, curves_lead, ends_with}
use Rattle.std.proofs.Common.{Some, None}
use Rattle.heads.specs.declared.Layout.{Layout}
use Rattle.std.proofs.lemmas.Option.{same_Some, none-some}
use Rattle.heads.specs.Layout.{counts, layout_of}
use Rattle.grammar.proofs.Laid.{Laid, laid-marks, laid-form, laid-curves}
use Rattle.grammar.proofs.Candidate.{laid-file, file-laid}

-- a layout as it is found
abbrev pub found : Form → ℕ → ℕ → Layout
found form n k = record { form = form; marks = n; curves = k }

pub counted : (b : List ℕ) {form : Form} {n k : ℕ} → all_fit 1 b ≡ true → Laid b form n k → Some (found form n k) ≡ layout_of b
unfolding layout_of
counted b g l = rw (laid-file g l, laid-marks l, laid-form l, laid-curves l)

pub broken : (b : List ℕ) (form : Form) (n k : ℕ) → marks_held b ≡ n → form_held b n ≡ form → curves_held b form n ≡ k → (Laid b form n k → ⊥) → None ≡ layout_of b
unfolding layout_of
broken b form n k en ef ek never = rw (not_so (is_file b) (λ h. never (rw (en, ef, ek) at (file-laid h))))

-- what a layout that was found tells
pub record Told (b : List ℕ) (form : Form) (n k : ℕ) : Type 0 where
  pub file : is_file b ≡ true
  pub laid : Laid b form n k

pub told : (b : List ℕ) (form : Form) (n k : ℕ) → layout_of b ≡ Some (found form n k) → Told b form n k
unfolding layout_of
told b form n k e = go (is_file b) refl e
  where
    go : (t : Bool) → is_file b ≡ t → cond t (counts b (marks_held b) (form_held b (marks_held b))) None ≡ Some (found form n k) → Told b form n k
    go true h q =
        let same = same_Some _ _ q in
        let en : marks_held b ≡ n = ap (λ (l : Layout). l.marks) same in
        let ef : form_held b (marks_held b) ≡ form = ap (λ (l : Layout). l.form) same in
        let ek : curves_held b (form_held b (marks_held b)) (marks_held b) ≡ k = ap (λ (l : Layout). l.curves) same in
        record { file = h; laid = rw (ek, ef, en) at (file-laid h) }
    go false h q = absurd (none-some _ q)

pub untold : (b : List ℕ) → layout_of b ≡ None → is_file b ≡ false
unfolding layout_of
untold b e = go (is_file b) refl e
  where
    go : (t : Bool) → is_file b ≡ t → cond t (counts b (marks_held b) (form_held b (marks_held b))) None ≡ None → is_file b ≡ false
    go true h q = absurd (none-some _ (sym q))
    go false h q = h

-- the form, with the field and the kind as they were read
pub form_by : (b : List ℕ) (n : ℕ) {field : Field} {kind : ℕ} {form : Form} → field ≡ field_for n → kind ≡ num 2 b (20 + 16 * n + 4) → form ≡ form_of field kind → form_held b n ≡ form
form_by b n ef ek e = sym (rw (ef, ek) at e)

-- the tests at the end, with the body's length and the kind as they were worked out
pub leads_by : (form : Form) (field : Field) (k : ℕ) (d : List ℕ) {r t : ℕ} → r ≡ body_bytes form field → t ≡ curve_kind form field → curves_lead form field k d ≡ true → records_lead r t k d ≡ true
leads_by form field k d er et h = rw (er, et) h

pub ends_by : (b : List ℕ) (form : Form) (n k : ℕ) {r t : ℕ} → r ≡ body_bytes form (field_for n) → t ≡ curve_kind form (field_for n)
    → length b ≡ 20 + 16 * n + (6 + r) * k + 6 + 8 * n → 0 < k → k < n → records_lead r t k (drop (20 + 16 * n) b) ≡ true
    → head_at b (20 + 16 * n + (6 + r) * k) (2 + 8 * n) 4 ≡ ends_with b form n k
unfolding ends_with
ends_by b form n k er et z some few h =
    let z' : length b ≡ 20 + 16 * n + curve_bytes form (field_for n) * k + 6 + 8 * n = rw er at z in
    let h' : curves_lead form (field_for n) k (drop (20 + 16 * n) b) ≡ true = rw (er, et) at h in
    rw er (simp (eq-eqb (length b) (20 + 16 * n + curve_bytes form (field_for n) * k + 6 + 8 * n) z', lt-ltb 0 k some, lt-ltb k n few, h'))
