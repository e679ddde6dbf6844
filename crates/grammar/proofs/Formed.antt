-- What makes a file well formed, as facts: the tests of `well_formed`, to and fro. Assumes nothing.
use mathlib.Core.Path.{◌≡◌, refl, ap}
use mathlib.Core.Bool.{true}
use mathlib.Core.List.{List}
use Prim.Native.Nat.{ℕ, zero, suc, ◌+◌, ◌*◌, ◌<◌, ◌^◌}
use native.Mathlib.Omega.{arith}
use borrow.Author.Tests.{eqb-true, eq-eqb, ne_eqb, ltb-true, lt-ltb}
use lib.ListN.{length}
use Rattle.float.proofs.Truth.{both}
use Rattle.form.specs.declared.Form.{Form}
use Rattle.form.specs.declared.Form.TheVariants.{Eight, Nine}
use Rattle.form.specs.Form.{width, worsts_for}
use Rattle.house.specs.declared.sizes.Field.{Field}
use Rattle.house.specs.Limits.{field_for, mark_field}
use Rattle.house.specs.Bytes.{les, all_fit}
use Rattle.house.specs.File.{File, marks_in, curves_in, field_in, fewer, suits, params_for, well_formed}
use Rattle.house.proofs.Forms.{suits_some}
use Rattle.house.proofs.Numbers.{split}
use Rattle.house.proofs.Rows.{length-les}

-- ---- no curves, or fewer than marks

pub data Turn (form : Form) (n k : ℕ) : Type 0 where
  plain : form ≡ Eight → k ≡ 0 → Turn form n k
  full : 0 < k → k < n → Turn form n k

-- nine numbers a curve ask for curves
pub alone : (form : Form) → suits form 0 ≡ true → form ≡ Eight
alone Eight h = refl
alone Nine h = absurd (omega (arith, ltb-true 0 0 h))

pub turn : (form : Form) (n k : ℕ) → suits form k ≡ true → fewer k n ≡ true → Turn form n k
turn form n zero s h = plain (alone form s) refl
turn form n (suc k) s h = full (omega arith) (ltb-true (suc k) n (rw (ne_eqb (suc k) 0 (λ e. omega arith)) at h))

pub turning : {form : Form} {n k : ℕ} → Turn form n k → fewer k n ≡ true
turning {form} {n} {k} (plain f e) = rw e
turning {form} {n} {k} (full some few) = rw (ne_eqb k 0 (λ e. omega arith)) (lt-ltb k n few)

suiting : {form : Form} {n k : ℕ} → Turn form n k → suits form k ≡ true
suiting {form} {n} {k} (plain f e) = rw f
suiting {form} {n} {k} (full some few) = suits_some form some

pub params_some : (n : ℕ) {k : ℕ} → 0 < k → params_for n k ≡ n
params_some n {k} h = rw (ne_eqb k 0 (λ e. omega arith))

-- ---- a file of n marks and k curves

-- by the lengths of its lists
pub record Sized (F : File) (n k : ℕ) : Type 0 where
  pub marks : length F.marks ≡ 2 * n
  pub firsts : length F.firsts ≡ k
  pub worsts : length F.worsts ≡ worsts_for F.form k
  pub curves : length F.curves ≡ width F.form * k
  pub params : length F.params ≡ params_for n k

-- by its numbers, those of marks in their field
pub record Fit (F : File) (field : Field) : Type 0 where
  pub tolerance : F.tolerance < 256 ^ 8
  pub marks : all_fit 8 F.marks ≡ true
  pub firsts : all_fit (mark_field field) F.firsts ≡ true
  pub worsts : all_fit (mark_field field) F.worsts ≡ true
  pub curves : all_fit 8 F.curves ≡ true
  pub params : all_fit 8 F.params ≡ true

pub record Formed (F : File) (n k : ℕ) : Type 0 where
  pub sized : Sized F n k
  pub way : Turn F.form n k
  pub few : 2 + 16 * n < 256 ^ 4
  pub fit : Fit F (field_for n)

-- so many marks, and so their field
marks_are : {F : File} {n k : ℕ} → Sized F n k → marks_in F ≡ n
marks_are s = rw s.marks (omega arith)

pub field_is : {F : File} {n k : ℕ} → Sized F n k → field_in F ≡ field_for n
field_is s = ap field_for (marks_are s)

few-marks : (M : List ℕ) (n : ℕ) → length M ≡ 2 * n → 2 + length (les M) < 256 ^ 4 → 2 + 16 * n < 256 ^ 4
few-marks M n m l = omega (arith, length-les M)

pub formed : (F : File) → well_formed F ≡ true → Formed F (marks_in F) (curves_in F)
unfolding well_formed
formed F h =
    let h0 = split _ _ h in
    let h1 = split _ _ h0.1 in
    let h2 = split _ _ h1.1 in
    let h3 = split _ _ h2.1 in
    let h4 = split _ _ h3.1 in
    let h5 = split _ _ h4.1 in
    let h6 = split _ _ h5.1 in
    let h7 = split _ _ h6.1 in
    let h8 = split _ _ h7.1 in
    let h9 = split _ _ h8.1 in
    let h10 = split _ _ h9.1 in
    let h11 = split _ _ h10.1 in
    let m : length F.marks ≡ 2 * marks_in F = eqb-true _ _ h0.0 in
    let l : 2 + length (les F.marks) < 256 ^ 4 = ltb-true _ _ h6.0 in
    record {
      sized = record { marks = m; firsts = refl; worsts = eqb-true _ _ h1.0; curves = eqb-true _ _ h2.0; params = eqb-true _ _ h3.0 };
      way = turn F.form (marks_in F) (curves_in F) h4.0 h5.0;
      few = few-marks F.marks (marks_in F) m l;
      fit = record { tolerance = ltb-true _ _ h7.0; marks = h8.0; firsts = h9.0; worsts = h10.0; curves = h11.0; params = h11.1 };
    }

pub forming : {F : File} {n k : ℕ} → Formed F n k → well_formed F ≡ true
unfolding well_formed
forming {F} {n} {k} f =
    let s = f.sized in
    let en : marks_in F ≡ n = marks_are s in
    let em : length F.marks ≡ 2 * marks_in F = rw en s.marks in
    let eo : length F.worsts ≡ worsts_for F.form (curves_in F) = rw s.firsts s.worsts in
    let ec : length F.curves ≡ width F.form * curves_in F = rw s.firsts s.curves in
    let ep : length F.params ≡ params_for (marks_in F) (curves_in F) = rw (en, s.firsts) s.params in
    let es : suits F.form (curves_in F) ≡ true = rw s.firsts (suiting f.way) in
    let ew : fewer (curves_in F) (marks_in F) ≡ true = rw (en, s.firsts) (turning f.way) in
    let el : 2 + length (les F.marks) < 256 ^ 4 = omega (arith, length-les F.marks) in
    let ef : field_in F ≡ field_for n = field_is s in
    let gf : all_fit (mark_field (field_in F)) F.firsts ≡ true = rw ef f.fit.firsts in
    let gw : all_fit (mark_field (field_in F)) F.worsts ≡ true = rw ef f.fit.worsts in
    both _ _ (eq-eqb _ _ em)
    (both _ _ (eq-eqb _ _ eo)
    (both _ _ (eq-eqb _ _ ec)
    (both _ _ (eq-eqb _ _ ep)
    (both _ _ es
    (both _ _ ew
    (both _ _ (lt-ltb _ _ el)
    (both _ _ (lt-ltb _ _ f.fit.tolerance)
    (both _ _ f.fit.marks
    (both _ _ gf
    (both _ _ gw
    (both _ _ f.fit.curves f.fit.params)))))))))))
