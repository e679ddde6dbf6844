-- How bytes are laid out, as facts: the tests of heads at fixed places, to and fro. Assumes nothing.
use mathlib.Core.Path.{◌≡◌, sym, ap, ◌∙◌}
use mathlib.Core.Bool.{true}
use mathlib.Core.List.{List, []}
use Prim.Native.Nat.{ℕ, ◌+◌, ◌*◌, ◌<◌, ◌≤◌}
use native.Mathlib.Omega.{arith}
use borrow.Author.Tests.{eqb-true, eq-eqb, ltb-true, lt-ltb}
use lib.ListN.{length, drop, drop_of_length-le}
use lib.Seq.{drop-drop}
use Rattle.float.proofs.Truth.{both}
use Rattle.form.specs.declared.Form.{Form}
use Rattle.form.specs.declared.Form.TheVariants.{Eight}
use Rattle.house.specs.Limits.{field_for, curve_kind, curve_bytes}
use Rattle.house.specs.Bytes.{val, num}
use Rattle.house.specs.Held.{marks_held, form_of, form_held, curves_held, file_at, candidate}
use Rattle.house.specs.Layout.{starts_with, curves_lead, ends_with}
use Rattle.house.proofs.Forms.{records_of_is, form_is, form_none}
use Rattle.house.proofs.Numbers.{split}
use Rattle.grammar.proofs.Records.{Head, head_out, head_in}
use Rattle.grammar.proofs.Curves.{lead_kind}

-- kinds 1 and 2 begin as they should for n marks
pub record Started (b : List ℕ) (n : ℕ) : Type 0 where
  pub long : 20 ≤ length b
  pub head1 : Head b 0 10 1
  pub head2 : Head b 14 (2 + 16 * n) 2

pub started : (b : List ℕ) (n : ℕ) → 20 ≤ length b → starts_with b n ≡ true → Started b n
unfolding starts_with
started b n l h = let s = split _ _ h in record { long = l; head1 = head_out b 0 10 1 s.0; head2 = head_out b 14 (2 + 16 * n) 2 s.1 }

pub starting : {b : List ℕ} {n : ℕ} → Started b n → starts_with b n ≡ true
unfolding starts_with
starting {b} {n} s = both _ _ (head_in b 0 10 1 s.head1) (head_in b 14 (2 + 16 * n) 2 s.head2)

-- k curves and kind 4 fill the rest
pub record Ended (b : List ℕ) (form : Form) (n k : ℕ) : Type 0 where
  pub size : length b ≡ 20 + 16 * n + curve_bytes form (field_for n) * k + 6 + 8 * n
  pub some : 0 < k
  pub few : k < n
  pub heads : curves_lead form (field_for n) k (drop (20 + 16 * n) b) ≡ true
  pub head4 : Head b (20 + 16 * n + curve_bytes form (field_for n) * k) (2 + 8 * n) 4

pub ended : (b : List ℕ) (form : Form) (n k : ℕ) → ends_with b form n k ≡ true → Ended b form n k
unfolding ends_with
ended b form n k h =
    let h0 = split _ _ h in
    let h1 = split _ _ h0.1 in
    let h2 = split _ _ h1.1 in
    let h3 = split _ _ h2.1 in
    record {
      size = eqb-true _ _ h0.0;
      some = ltb-true _ _ h1.0;
      few = ltb-true _ _ h2.0;
      heads = h3.0;
      head4 = head_out b (20 + 16 * n + curve_bytes form (field_for n) * k) (2 + 8 * n) 4 h3.1;
    }

pub ending : {b : List ℕ} {form : Form} {n k : ℕ} → Ended b form n k → ends_with b form n k ≡ true
unfolding ends_with
ending {b} {form} {n} {k} s =
    both _ _ (eq-eqb _ _ s.size) (both _ _ (lt-ltb 0 k s.some) (both _ _ (lt-ltb k n s.few) (both _ _ s.heads (head_in b (20 + 16 * n + curve_bytes form (field_for n) * k) (2 + 8 * n) 4 s.head4))))

-- the whole: n marks and nothing more, or k curves too
pub data Laid (b : List ℕ) (form : Form) (n k : ℕ) : Type 0 where
  plain : Started b n → length b ≡ 20 + 16 * n → form ≡ Eight → k ≡ 0 → Laid b form n k
  full : Started b n → Ended b form n k → Laid b form n k

pub laid_started : {b : List ℕ} {form : Form} {n k : ℕ} → Laid b form n k → Started b n
laid_started (plain s z f e) = s
laid_started (full s d) = s

pub laid-ended : {b : List ℕ} {form : Form} {n k : ℕ} → Laid b form n k → (length b ≡ 20 + 16 * n → ⊥) → Ended b form n k
laid-ended (plain s z f e) more = absurd (more z)
laid-ended (full s d) more = d

-- what settles it: the marks, the form, the curves
pub laid-marks : {b : List ℕ} {form : Form} {n k : ℕ} → Laid b form n k → marks_held b ≡ n
laid-marks (plain s z f e) = omega (arith, s.head2.size_is)
laid-marks (full s d) = omega (arith, s.head2.size_is)

-- behind the last byte there is no kind
pub no_kind : (b : List ℕ) (n : ℕ) → length b ≡ 20 + 16 * n → form_held b n ≡ Eight
unfolding val
no_kind b n z = let d : drop (20 + 16 * n + 4) b ≡ [] = drop_of_length-le b {i = 20 + 16 * n + 4} (omega arith) in rw d (form_none (field_for n))

pub laid-form : {b : List ℕ} {form : Form} {n k : ℕ} → Laid b form n k → form_held b n ≡ form
laid-form {b} {form} {n} {k} (plain s z f e) = no_kind b n z ∙ sym f
laid-form {b} {form} {n} {k} (full s d) =
    let j : drop 4 (drop (20 + 16 * n) b) ≡ drop (20 + 16 * n + 4) b = drop-drop 4 (20 + 16 * n) b in
    let t : num 2 b (20 + 16 * n + 4) ≡ curve_kind form (field_for n) = rw j at (lead_kind form (field_for n) k (drop (20 + 16 * n) b) d.some d.heads) in
    ap (form_of (field_for n)) t ∙ form_is form (field_for n)

pub laid-curves : {b : List ℕ} {form : Form} {n k : ℕ} → Laid b form n k → curves_held b form n ≡ k
laid-curves {b} {form} {n} {k} (plain s z f e) = records_of_is form (field_for n) k _ (rw e (omega arith))
laid-curves {b} {form} {n} {k} (full s d) = records_of_is form (field_for n) k _ (omega (arith, d.size))

pub laid-candidate : {b : List ℕ} {form : Form} {n k : ℕ} → Laid b form n k → candidate b ≡ file_at b form n k
unfolding candidate
laid-candidate l = rw (laid-marks l, laid-form l, laid-curves l)

-- the marks are within the bytes
pub marks_in_is : {b : List ℕ} {form : Form} {n k : ℕ} → Laid b form n k → 20 + 16 * n ≤ length b
marks_in_is (plain s f z x) = omega arith
marks_in_is (full s d) = omega (arith, d.size)
