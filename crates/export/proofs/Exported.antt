-- What is known of a list whose text export gives. Assumes nothing.
use mathlib.Core.Path.{◌≡◌}
use mathlib.Core.Bool.{Bool, true}
use mathlib.Core.List.{List}
use Prim.Native.Nat.{ℕ, ◌+◌, ◌*◌, ◌/◌, ◌≤◌, ◌<◌}
use native.Mathlib.Omega.{arith}
use borrow.Author.Tests.{leb-true}
use lib.Dec.{leb}
use lib.ListN.{length}
use lib.Ieee.{Float}
use Rattle.float.specs.Answer.{ok}
use Rattle.float.proofs.Answers.{unless_ok}
use Rattle.form.specs.Form.{width}
use Rattle.form.specs.declared.Form.{Form}
use Rattle.faults.specs.Tests.{curve_at, curve_finite}
use Rattle.path.specs.Text.{path_text}
use Rattle.path.specs.Range.{not_finite, too_large, not_joined, no_room, curve_within, every}
use Rattle.export.specs.Export.{whole_in, meets, export_text}
use Rattle.path_text.specs.Writable.{Writable}
use Rattle.path_text.proofs.Lengths.{path-short}
use Rattle.export.proofs.Cases.{some_curves, whole}

pub record Exported (form : Form) (C : List Float) (k : ℕ) (ring : Bool) (t : List ℕ) : Type 0 where
  pub some : 0 < k
  pub held : k ≤ whole_in form (length C) k
  pub writable : Writable form C k
  pub joined : meets ring k (whole_in form (length C) k) (curve_at form C) ≡ true
  pub text : ok (path_text ring k (curve_at form C)) ≡ ok t

pub exported : (form : Form) (C : List Float) (k : ℕ) (ring : Bool) (t : List ℕ) → export_text form C k ring ≡ ok t → Exported form C k ring t
unfolding export_text
exported form C k ring t e =
    let f = curve_at form C in
    let h : ℕ = whole_in form (length C) k in
    let e5 = unless_ok not_finite (every h (λ i. curve_finite (f i))) _ e in
    let e10 = unless_ok too_large (every h (λ i. curve_within (f i))) _ e5.1 in
    let e12 = unless_ok not_joined (meets ring k h f) _ e10.1 in
    let e4 = unless_ok no_room (leb k h) (ok (path_text ring k f)) e12.1 in
    let l : k ≤ h = leb-true k h e4.0 in
    record {
      some = some_curves ring form C k h e12.0;
      held = l;
      writable = whole form C k l e5.0 e10.0;
      joined = e12.0;
      text = e4.1;
    }

-- how long it is at most, by the numbers of the slice
pub exported_short : (form : Form) (C : List Float) (k : ℕ) (ring : Bool) (t : List ℕ) → export_text form C k ring ≡ ok t → (k ≤ length C / width form) × (length t ≤ 33 + 92 * k)
exported_short form C k ring t e =
    let x = exported form C k ring t e in
    let s : length (path_text ring k (curve_at form C)) ≤ 33 + 92 * k = path-short x.writable ring x.some in
    (omega (arith, x.held), rw (same x.text) at s)
  where
    same : {a b : List ℕ} → ok a ≡ ok b → a ≡ b
    same z = cc
