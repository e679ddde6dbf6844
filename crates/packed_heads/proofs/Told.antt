-- What a layout that was found tells. Assumes nothing.
use mathlib.Core.Path.{◌≡◌, refl, sym, ap}
use mathlib.Core.Bool.{Bool, true, false, cond}
use mathlib.Core.List.{List}
use Prim.Native.Nat.{ℕ, ◌+◌, ◌*◌, ◌≤◌}
use native.Mathlib.Omega.{arith}
use lib.ListN.{length}
use Rattle.float.specs.Answer.{ok, refused}
use Rattle.form.specs.declared.Form.{Form}
use Rattle.house.specs.File.{well_formed}
use Rattle.house.specs.Held.{marks_held}
use Rattle.grammar.proofs.Laid.{Laid, Started, laid_started, laid-candidate, marks_in_is}
use Rattle.grammar.proofs.Candidate.{holds_candidate}
use Rattle.heads.specs.declared.Layout.{Layout}
use Rattle.std.proofs.Common.{Option, Some, None}
use Rattle.std.proofs.lemmas.Option.{same_Some, none-some}
use Rattle.heads.specs.Layout.{layout_of}
use Rattle.heads.proofs.Ways.{found, told, untold}
use Rattle.packed.specs.Unpacked.{packed_form, packed_curves, is_packed, packed_of, held_of}
use Rattle.packed.proofs.Laid.{PackedLaid, plain, full, packed_started, packed_candidate_is}
use Rattle.packed.proofs.Candidate.{packs_candidate, packed_laid}
use Rattle.packed_heads.specs.declared.Joints.{Joints}
use Rattle.packed_heads.specs.declared.Joints.TheVariants.{Twice, Once}
use Rattle.packed_heads.specs.declared.Held.{Held}
use Rattle.packed_heads.specs.Layout.{packed_counts, packed_layout_of, either_of, held_layout_of, held_at}

-- ---- a packed file

pub record PackedTold (b : List ℕ) (form : Form) (n k : ℕ) : Type 0 where
  pub packed : is_packed b ≡ true
  pub laid : PackedLaid b form n k

pub packed_told : (b : List ℕ) (form : Form) (n k : ℕ) → packed_layout_of b ≡ Some (found form n k) → PackedTold b form n k
unfolding packed_layout_of
packed_told b form n k e = go (is_packed b) refl e
  where
    go : (t : Bool) → is_packed b ≡ t → cond t (packed_counts b (marks_held b) (packed_form b (marks_held b))) None ≡ Some (found form n k) → PackedTold b form n k
    go true h q =
        let same = same_Some _ _ q in
        let en : marks_held b ≡ n = ap (λ (l : Layout). l.marks) same in
        let ef : packed_form b (marks_held b) ≡ form = ap (λ (l : Layout). l.form) same in
        let ek : packed_curves b (packed_form b (marks_held b)) (marks_held b) ≡ k = ap (λ (l : Layout). l.curves) same in
        record { packed = h; laid = rw (ek, ef, en) at (packed_laid h) }
    go false h q = absurd (none-some _ q)

pub packed_untold : (b : List ℕ) → packed_layout_of b ≡ None → is_packed b ≡ false
unfolding packed_layout_of
packed_untold b e = go (is_packed b) refl e
  where
    go : (t : Bool) → is_packed b ≡ t → cond t (packed_counts b (marks_held b) (packed_form b (marks_held b))) None ≡ None → is_packed b ≡ false
    go true h q = absurd (none-some _ (sym q))
    go false h q = h

-- ---- a file in either form

-- how it is laid out
pub data HeldLaid (b : List ℕ) : Joints → Form → ℕ → ℕ → Type 0 where
  twice : {form : Form} {n k : ℕ} → Laid b form n k → HeldLaid b Twice form n k
  once : {form : Form} {n k : ℕ} → PackedLaid b form n k → HeldLaid b Once form n k

pub record HeldTold (b : List ℕ) (joints : Joints) (form : Form) (n k : ℕ) : Type 0 where
  pub file : held_of b ≡ ok (held_at joints b form n k)
  pub formed : well_formed (held_at joints b form n k) ≡ true
  pub laid : HeldLaid b joints form n k
  pub starts : Started b n
  pub marks : 20 + 16 * n ≤ length b

-- what is held as it is found
abbrev pub stored : Joints → Form → ℕ → ℕ → Held
stored joints form n k = record { joints = joints; layout = found form n k }

packed_marks_in : {b : List ℕ} {form : Form} {n k : ℕ} → PackedLaid b form n k → 20 + 16 * n ≤ length b
packed_marks_in (plain s z f e) = omega arith
packed_marks_in (full s j) = omega (arith, j.size)

told_twice : (b : List ℕ) (form : Form) (n k : ℕ) → layout_of b ≡ Some (found form n k) → HeldTold b Twice form n k
unfolding held_of
told_twice b form n k e =
    let t = told b form n k e in
    let c = laid-candidate t.laid in
    record { file = rw (t.file, c); formed = rw c at (holds_candidate t.file).formed; laid = twice t.laid; starts = laid_started t.laid; marks = marks_in_is t.laid }

told_once : (b : List ℕ) (form : Form) (n k : ℕ) → layout_of b ≡ None → packed_layout_of b ≡ Some (found form n k) → HeldTold b Once form n k
unfolding held_of packed_of
told_once b form n k u e =
    let t = packed_told b form n k e in
    let c = packed_candidate_is t.laid in
    record { file = rw (untold b u, t.packed, c); formed = rw c at (packs_candidate t.packed).formed; laid = once t.laid; starts = packed_started t.laid; marks = packed_marks_in t.laid }

pub held_told : (b : List ℕ) (joints : Joints) (form : Form) (n k : ℕ) → held_layout_of b ≡ Some (stored joints form n k) → HeldTold b joints form n k
unfolding held_layout_of
held_told b joints form n k e = go (layout_of b) (packed_layout_of b) refl refl e
  where
    same : (j : Joints) (l : Layout) → ◌≡◌ {A = Option Held} (Some (record { joints = j; layout = l })) (Some (stored joints form n k)) → HeldTold b j l.form l.marks l.curves → HeldTold b joints form n k
    same j l q t =
        let e = same_Some _ _ q in
        let ej : j ≡ joints = ap (λ (h : Held). h.joints) e in
        let el : l ≡ found form n k = ap (λ (h : Held). h.layout) e in
        rw (ej, el) at t

    go : (l p : Option Layout) → layout_of b ≡ l → packed_layout_of b ≡ p → either_of l p ≡ Some (stored joints form n k) → HeldTold b joints form n k
    go (Some l) p el ep q = same Twice l q (told_twice b l.form l.marks l.curves el)
    go None (Some l) el ep q = same Once l q (told_once b l.form l.marks l.curves el ep)
    go None None el ep q = absurd (none-some _ q)

pub held_untold : (b : List ℕ) → held_layout_of b ≡ None → held_of b ≡ refused 9
unfolding held_layout_of held_of packed_of
held_untold b e = go (layout_of b) (packed_layout_of b) refl refl e
  where
    go : (l p : Option Layout) → layout_of b ≡ l → packed_layout_of b ≡ p → either_of l p ≡ None → held_of b ≡ refused 9
    go (Some l) p el ep q = absurd (none-some _ (sym q))
    go None (Some l) el ep q = absurd (none-some _ (sym q))
    go None None el ep q = rw (untold b el, packed_untold b ep)
