-- Turns of the loops that copy what stands in each record. Assumes nothing.
use mathlib.Core.Path.{◌≡◌, refl, sym, ap, ◌∙◌}
use mathlib.Core.List.{List, [], ◌∷◌, ◌++◌}
use Prim.Native.Nat.{ℕ, zero, suc, ◌+◌, ◌-◌, ◌*◌, ◌<◌, ◌≤◌}
use native.Mathlib.Numerals.{add-one}
use native.Mathlib.Omega.{arith}
use lib.ListN.{length, take, drop, set}
use lib.Seq.{drop-drop}
use Rattle.form.specs.declared.Form.{Form}
use Rattle.form.specs.declared.Form.TheVariants.{Eight, Nine}
use Rattle.form.specs.Form.{width, worsts_for}
use Rattle.house.specs.declared.sizes.Field.{Field}
use Rattle.house.specs.Limits.{field_for, mark_field, worst_marks, beside_bytes, body_bytes, curve_bytes}
use Rattle.house.specs.Bytes.{num, row, words}
use Rattle.house.specs.File.{params_for}
use Rattle.house.specs.Held.{in_each, firsts_of, worsts_of, curves_of, params_at}
use Rattle.float.specs.Slices.{written}
use Rattle.house.proofs.Rows.{length-words}
use Rattle.grammar.proofs.Curves.{row_one, length-each, each-suc}
use Rattle.grammar.proofs.Formed.{params_some}
use Rattle.house.proofs.Turns.{front-suc, front_part}

module _ (b : List ℕ) (at p step : ℕ) where
  each_next : (f n i : ℕ) → in_each f n p step (i + 1) (drop at b) ≡ in_each f n p step i (drop at b) ++ row f n (drop (at + step * i + p) b)
  each_next f n i =
      let e : at + (step * i + p) ≡ at + step * i + p = omega arith in
      rw (add-one i, each-suc, drop-drop, e)

  -- one mark number more
  pub marks-turn : (f : ℕ) (l : List ℕ) (i : ℕ) → i < length l
      → set (in_each f 1 p step i (drop at b) ++ drop i l) i (num f b (at + step * i + p)) ≡ in_each f 1 p step (i + 1) (drop at b) ++ drop (i + 1) l
  marks-turn f l i h =
      let z : length (in_each f 1 p step i (drop at b)) ≡ i = length-each f 1 p step i (drop at b) ∙ omega arith in
      let e : in_each f 1 p step (i + 1) (drop at b) ≡ in_each f 1 p step i (drop at b) ++ (num f b (at + step * i + p) ∷ []) = each_next f 1 i ∙ rw row_one in
      front-suc 0 (in_each f 1 p step i (drop at b)) l (num f b (at + step * i + p)) i z h ∙ ap (λ (r : List ℕ). r ++ drop (i + 1) l) (sym e)

  -- n numbers more, where the part from n * i on was lent
  pub rows_put : (n : ℕ) (l m last : List ℕ) (i : ℕ) → m ≡ in_each 8 n p step i (drop at b) ++ drop (n * i) l → n * i ≤ length m
      → last ≡ written (words n (drop (at + step * i + p) b)) (take (length m - n * i) (drop (n * i) m))
      → take (n * i) m ++ (last ++ drop (length m - n * i) (drop (n * i) m)) ≡ in_each 8 n p step (i + 1) (drop at b) ++ drop (n * (i + 1)) l
  rows_put n l m last i e h s =
      let q : n * i + n ≡ n * (i + 1) = omega arith in
      front_part (in_each 8 n p step i (drop at b)) (words n (drop (at + step * i + p) b)) l m last (n * i) e (length-each 8 n p step i (drop at b)) h s
      ∙ rw (each_next 8 n i, length-words, q)

-- ---- worst marks: one in each record, or none

none_each : (f p step k : ℕ) (b : List ℕ) → in_each f 0 p step k b ≡ []
unfolding in_each row
none_each f p step zero b = refl
none_each f p step (suc k) b = none_each f p step k (drop step b)

worsts-as : (form : Form) (f p step k : ℕ) (b : List ℕ) → in_each f 1 p step (worsts_for form k) b ≡ in_each f (worst_marks form) p step k b
unfolding in_each
worsts-as Eight f p step k b = sym (none_each f p step k b)
worsts-as Nine f p step k b = refl

-- ---- what is copied, with sizes as they were worked out

module _ (form : Form) (field : Field) (k : ℕ) (d : List ℕ) {r : ℕ} (er : r ≡ body_bytes form field) where
  pub firsts_by : (P : List ℕ) {P' : List ℕ} → P' ≡ written (in_each (mark_field field) 1 6 (6 + r) k d) P → P' ≡ written (firsts_of form field k d) P
  firsts_by P h = rw er at h

  pub worsts_by : (W : List ℕ) {m s : ℕ} {W' : List ℕ} → m ≡ worsts_for form k → s ≡ mark_field field → W' ≡ written (in_each (mark_field field) 1 (6 + s) (6 + r) m d) W → W' ≡ written (worsts_of form field k d) W
  worsts_by W em es h = let g = rw (er, em, es) at h in rw (worsts-as form (mark_field field) (6 + mark_field field) (curve_bytes form field) k d) at g

  pub curves_by : (C : List ℕ) {q n : ℕ} {C' : List ℕ} → q ≡ beside_bytes form field → n ≡ width form → C' ≡ written (in_each 8 n (6 + q) (6 + r) k d) C → C' ≡ written (curves_of form field k d) C
  curves_by C eq en h = rw (er, eq, en) at h

pub params_by : (b : List ℕ) (form : Form) (n k : ℕ) (Q : List ℕ) → 0 < k → {r : ℕ} {Q' : List ℕ} → r ≡ body_bytes form (field_for n)
    → Q' ≡ written (words n (drop (20 + 16 * n + (6 + r) * k + 6) b)) Q → Q' ≡ written (words (params_for n k) (drop (params_at form n k) b)) Q
params_by b form n k Q h er e = rw (params_some n h) (rw er at e)
