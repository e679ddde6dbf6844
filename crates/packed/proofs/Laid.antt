-- How packed bytes are laid out, as facts: the tests of heads and numbers at fixed places, to and fro. Assumes nothing.
use mathlib.Core.Path.{◌≡◌, sym, ◌∙◌}
use mathlib.Core.Bool.{true}
use mathlib.Core.List.{List, []}
use Prim.Native.Nat.{ℕ, ◌+◌, ◌-◌, ◌*◌, ◌<◌}
use native.Mathlib.Omega.{arith}
use borrow.Author.Tests.{eqb-true, eq-eqb, ltb-true, lt-ltb}
use lib.ListN.{length, drop, drop_of_length-le}
use Rattle.float.proofs.Truth.{both}
use Rattle.form.specs.declared.Form.{Form}
use Rattle.form.specs.declared.Form.TheVariants.{Eight, Nine}
use Rattle.house.specs.Limits.{field_for, mark_field}
use Rattle.house.specs.Bytes.{val, num, all_fit}
use Rattle.house.specs.Held.{marks_held}
use Rattle.house.proofs.Numbers.{split}
use Rattle.grammar.proofs.Records.{Head, head_out, head_in}
use Rattle.grammar.proofs.Laid.{Started}
use Rattle.packed.specs.Packed.{flag, entry_bytes}
use Rattle.packed.specs.Unpacked.{flag_at, entry_at, first_place, firsts_in, worsts_in, packed_at, packed_form, packed_curves, packed_candidate}
use Rattle.packed.specs.Layout.{ends_packed}
use Rattle.packed.proofs.Sizes.{entries_of}

-- kind 8 with k curves, and kind 4, fill the rest
pub record Joined (b : List ℕ) (form : Form) (n k : ℕ) : Type 0 where
  pub size : length b ≡ entry_at form n k + 6 + 8 * n
  pub some : 0 < k
  pub few : k < n
  pub head8 : Head b (20 + 16 * n) (2 + (21 + entry_bytes form * k)) 8
  pub flag_is : num 1 b (flag_at n) ≡ flag form
  pub last_is : num 4 b (first_place form n k) ≡ n - 1
  pub firsts : all_fit (mark_field (field_for n)) (firsts_in b form n k) ≡ true
  pub worsts : all_fit (mark_field (field_for n)) (worsts_in b form n k) ≡ true
  pub head4 : Head b (entry_at form n k) (2 + 8 * n) 4

pub joined : (b : List ℕ) (form : Form) (n k : ℕ) → ends_packed b form n k ≡ true → Joined b form n k
unfolding ends_packed
joined b form n k h =
    let h0 = split _ _ h in
    let h1 = split _ _ h0.1 in
    let h2 = split _ _ h1.1 in
    let h3 = split _ _ h2.1 in
    let h4 = split _ _ h3.1 in
    let l = split _ _ h3.0 in
    let m = split _ _ h4.0 in
    let f = split _ _ m.1 in
    record {
      size = eqb-true _ _ h0.0;
      some = ltb-true _ _ h1.0;
      few = ltb-true _ _ h2.0;
      head8 = head_out b (20 + 16 * n) (2 + (21 + entry_bytes form * k)) 8 l.0;
      flag_is = eqb-true _ _ l.1;
      last_is = eqb-true _ _ m.0;
      firsts = f.0;
      worsts = f.1;
      head4 = head_out b (entry_at form n k) (2 + 8 * n) 4 h4.1;
    }

pub joining : {b : List ℕ} {form : Form} {n k : ℕ} → Joined b form n k → ends_packed b form n k ≡ true
unfolding ends_packed
joining {b} {form} {n} {k} j =
    both _ _ (eq-eqb _ _ j.size)
    (both _ _ (lt-ltb 0 k j.some)
    (both _ _ (lt-ltb k n j.few)
    (both _ _ (both _ _ (head_in b (20 + 16 * n) (2 + (21 + entry_bytes form * k)) 8 j.head8) (eq-eqb _ _ j.flag_is))
    (both _ _ (both _ _ (eq-eqb _ _ j.last_is) (both _ _ j.firsts j.worsts)) (head_in b (entry_at form n k) (2 + 8 * n) 4 j.head4)))))

-- the whole: n marks and nothing more, or k curves too
pub data PackedLaid (b : List ℕ) (form : Form) (n k : ℕ) : Type 0 where
  plain : Started b n → length b ≡ 20 + 16 * n → form ≡ Eight → k ≡ 0 → PackedLaid b form n k
  full : Started b n → Joined b form n k → PackedLaid b form n k

pub packed_started : {b : List ℕ} {form : Form} {n k : ℕ} → PackedLaid b form n k → Started b n
packed_started (plain s z f e) = s
packed_started (full s j) = s

pub packed_joined : {b : List ℕ} {form : Form} {n k : ℕ} → PackedLaid b form n k → (length b ≡ 20 + 16 * n → ⊥) → Joined b form n k
packed_joined (plain s z f e) more = absurd (more z)
packed_joined (full s j) more = j

pub some_joined : {b : List ℕ} {form : Form} {n k : ℕ} → PackedLaid b form n k → 0 < k → Joined b form n k
some_joined (plain s z f e) some = absurd (omega arith)
some_joined (full s j) some = j

-- what settles it: the marks, the form, the curves
pub packed_marks : {b : List ℕ} {form : Form} {n k : ℕ} → PackedLaid b form n k → marks_held b ≡ n
packed_marks (plain s z f e) = omega (arith, s.head2.size_is)
packed_marks (full s j) = omega (arith, s.head2.size_is)

form_is : (b : List ℕ) (n : ℕ) (form : Form) → num 1 b (flag_at n) ≡ flag form → packed_form b n ≡ form
form_is b n Eight e = rw e
form_is b n Nine e = rw e

-- behind the last byte there is no flag
pub no_flag : (b : List ℕ) (n : ℕ) → length b ≡ 20 + 16 * n → packed_form b n ≡ Eight
unfolding val
no_flag b n z = let d : drop (flag_at n) b ≡ [] = drop_of_length-le b {i = flag_at n} (omega arith) in rw d

pub packed_form_is : {b : List ℕ} {form : Form} {n k : ℕ} → PackedLaid b form n k → packed_form b n ≡ form
packed_form_is {b} {form} {n} (plain s z f e) = no_flag b n z ∙ sym f
packed_form_is {b} {form} {n} (full s j) = form_is b n form j.flag_is

pub packed_curves_is : {b : List ℕ} {form : Form} {n k : ℕ} → PackedLaid b form n k → packed_curves b form n ≡ k
packed_curves_is {b} {form} {n} {k} (plain s z f e) = entries_of form k _ (rw e (omega arith))
packed_curves_is {b} {form} {n} {k} (full s j) = entries_of form k _ (omega (arith, j.size))

pub packed_candidate_is : {b : List ℕ} {form : Form} {n k : ℕ} → PackedLaid b form n k → packed_candidate b ≡ packed_at b form n k
unfolding packed_candidate
packed_candidate_is l = rw (packed_marks l, packed_form_is l, packed_curves_is l)
