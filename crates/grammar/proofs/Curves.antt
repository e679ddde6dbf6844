-- Laws of the records of curves: read off, and put together. Assumes nothing.
use mathlib.Core.Path.{◌≡◌, refl, sym, ap, ◌∙◌}
use mathlib.Core.Bool.{true}
use mathlib.Core.List.{List, [], ◌∷◌, ◌++◌, append_assoc, append-nil}
use Prim.Native.Nat.{ℕ, zero, suc, ◌+◌, ◌*◌, ◌<◌, ◌≤◌, ◌^◌}
use native.Mathlib.Nat.{mul-zero}
use native.Mathlib.Omega.{arith}
use lib.ListN.{length, take, drop, length-append, length-drop, take-append-drop}
use lib.Seq.{drop-drop, take_at, drop_at, take-append-le, drop-append-le, length-take-le, sets}
use Rattle.float.proofs.Truth.{and_left, and_right}
use Rattle.text.proofs.Stores.{sets_append}
use Rattle.form.specs.declared.Form.{Form}
use Rattle.form.specs.Form.{width, worsts_for}
use Rattle.house.specs.declared.sizes.Field.{Field}
use Rattle.house.specs.Limits.{mark_field, worst_marks, curve_kind, beside_bytes, body_bytes, curve_bytes, numbers_at}
use Rattle.house.specs.Bytes.{val, le, num, row, row_bytes, les, all_fit}
use Rattle.house.specs.File.{rec, framed, flat, body_of, curve_records}
use Rattle.house.specs.Held.{in_each, firsts_of, worsts_of, curves_of}
use Rattle.house.specs.Layout.{head_at, records_lead, curves_lead}
use Rattle.house.proofs.Forms.{body-few, worsts-each, kind-few}
use Rattle.house.proofs.Numbers.{fit_head, fit_tail, fit_append, fit-take, fit-drop, length-le, val-front, drop-front, le-front}
use Rattle.house.proofs.Rows.{length-row, length-bytes, fit_row, row-front, row_back}
use Rattle.grammar.proofs.Records.{Head, length-framed, head_out, head_in, framed-front, framed_head, framed-body}

pub empty : (xs : List ℕ) → length xs ≡ 0 → xs ≡ []
empty [] h = refl
empty (x ∷ xs) h = absurd (omega arith)

-- ---- what stands in each record

pub row_one : (f : ℕ) (b : List ℕ) → row f 1 b ≡ val (take f b) ∷ []
unfolding row
row_one f b = refl

module _ (f n p bytes : ℕ) where
  pub length-each : (k : ℕ) (b : List ℕ) → length (in_each f n p bytes k b) ≡ n * k
  unfolding in_each
  length-each zero b = rw (mul-zero n)
  length-each (suc k) b = simp (length-append, length-row, length-each k (drop bytes b)) (omega arith)

  pub fit-each : (k : ℕ) (b : List ℕ) → all_fit 1 b ≡ true → all_fit f (in_each f n p bytes k b) ≡ true
  unfolding in_each all_fit
  fit-each zero b g = refl
  fit-each (suc k) b g = fit_append f (row f n (drop p b)) (in_each f n p bytes k (drop bytes b)) (fit_row f n (drop p b) (fit-drop 1 p b g)) (fit-each k (drop bytes b) (fit-drop 1 bytes b g))

-- one more record
pub each-suc : (f n p step i : ℕ) (b : List ℕ) → in_each f n p step (suc i) b ≡ in_each f n p step i b ++ row f n (drop (step * i + p) b)
unfolding in_each
each-suc f n p step zero b = let e : p ≡ step * 0 + p = omega arith in append-nil (row f n (drop p b)) ∙ ap (λ (x : ℕ). row f n (drop x b)) e
each-suc f n p step (suc i) b =
    let e : step + (step * i + p) ≡ step * suc i + p = omega arith in
    let t : in_each f n p step (suc i) (drop step b) ≡ in_each f n p step i (drop step b) ++ row f n (drop (step * suc i + p) b) = each-suc f n p step i (drop step b) ∙ rw (drop-drop, e) in
    ap (λ (l : List ℕ). row f n (drop p b) ++ l) t ∙ sym (append_assoc (row f n (drop p b)) (in_each f n p step i (drop step b)) (row f n (drop (step * suc i + p) b)))

module _ (form : Form) (field : Field) where
  -- the bytes of a mark number
  abbrev f : ℕ
  f = mark_field field

  pub length-firsts : (k : ℕ) (b : List ℕ) → length (firsts_of form field k b) ≡ k
  length-firsts k b = length-each f 1 6 (curve_bytes form field) k b ∙ omega arith

  pub length-worsts : (k : ℕ) (b : List ℕ) → length (worsts_of form field k b) ≡ worsts_for form k
  length-worsts k b = length-each f (worst_marks form) (6 + f) (curve_bytes form field) k b ∙ sym (worsts-each form k)

  pub length-curves : (k : ℕ) (b : List ℕ) → length (curves_of form field k b) ≡ width form * k
  length-curves k b = length-each 8 (width form) (numbers_at form field) (curve_bytes form field) k b

  -- ---- how long the records are

  pub length-body : (p : ℕ) (W C : List ℕ) → worst_marks form ≤ length W → width form ≤ length C → length (body_of form field p W C) ≡ body_bytes form field
  length-body p W C hw hc =
      let lw : length (take (worst_marks form) W) ≡ worst_marks form = length-take-le (worst_marks form) W hw in
      let lc : length (take (width form) C) ≡ width form = length-take-le (width form) C hc in
      simp (length-append, length-le, length-bytes, lw, lc) (omega arith)

  pub length-flat : (P W C : List ℕ) → length W ≡ worst_marks form * length P → length C ≡ width form * length P → length (flat (curve_records form field P W C)) ≡ curve_bytes form field * length P
  unfolding flat curve_records
  length-flat [] W C hw hc = rw (mul-zero (curve_bytes form field))
  length-flat (p ∷ P) W C hw hc =
      let l : length (body_of form field p W C) ≡ body_bytes form field = length-body p W C (omega arith) (omega arith) in
      let i = length-flat P (drop (worst_marks form) W) (drop (width form) C) (simp length-drop (omega arith)) (simp length-drop (omega arith)) in
      length-append (framed (rec (curve_kind form field) (body_of form field p W C))) _ ∙ rw (i, length-framed (curve_kind form field) (body_of form field p W C), l) (omega arith)

  -- ---- records that are put

  -- one record: head, mark numbers, numbers
  pub curve-put : (l : List ℕ) (at p : ℕ) (W C : List ℕ) → worst_marks form ≤ length W → width form ≤ length C
      → sets (sets (sets l at (le 4 (2 + body_bytes form field) ++ le 2 (curve_kind form field))) (at + 6) (le f p ++ row_bytes f (take (worst_marks form) W))) (at + 6 + beside_bytes form field) (les (take (width form) C))
      ≡ sets l at (framed (rec (curve_kind form field) (body_of form field p W C)))
  curve-put l at p W C hw hc =
      let hd : List ℕ = le 4 (2 + body_bytes form field) ++ le 2 (curve_kind form field) in
      let ms : List ℕ = le f p ++ row_bytes f (take (worst_marks form) W) in
      let ns : List ℕ = les (take (width form) C) in
      let z : length (body_of form field p W C) ≡ body_bytes form field = length-body p W C hw hc in
      let lw : length (take (worst_marks form) W) ≡ worst_marks form = length-take-le (worst_marks form) W hw in
      let spread : framed (rec (curve_kind form field) (body_of form field p W C)) ≡ (hd ++ ms) ++ ns = rw z (simp append_assoc) in
      let s1 = sets_append hd ms l at in
      let s2 = sets_append (hd ++ ms) ns l at in
      let p1 : at + length hd ≡ at + 6 = simp (length-append, length-le) in
      let p2 : at + length (hd ++ ms) ≡ at + 6 + beside_bytes form field = simp (length-append, length-le, length-bytes, lw) (omega arith) in
      sym (rw spread (s2 ∙ rw (p2, s1, p1)))

  -- one record more
  pub curves_snoc : (P W C w c : List ℕ) (p : ℕ) → length W ≡ worst_marks form * length P → length C ≡ width form * length P
      → flat (curve_records form field (P ++ (p ∷ [])) (W ++ w) (C ++ c)) ≡ flat (curve_records form field P W C) ++ framed (rec (curve_kind form field) (body_of form field p w c))
  unfolding flat curve_records
  curves_snoc [] W C w c p hw hc =
      let e_w : W ≡ [] = empty W (omega arith) in
      let e_c : C ≡ [] = empty C (omega arith) in
      rw (e_w, e_c, append-nil)
  curves_snoc (x ∷ P) W C w c p hw hc =
      let tw : take (worst_marks form) (W ++ w) ≡ take (worst_marks form) W = take-append-le (worst_marks form) W w (omega arith) in
      let dw : drop (worst_marks form) (W ++ w) ≡ drop (worst_marks form) W ++ w = drop-append-le (worst_marks form) W w (omega arith) in
      let tc : take (width form) (C ++ c) ≡ take (width form) C = take-append-le (width form) C c (omega arith) in
      let dc : drop (width form) (C ++ c) ≡ drop (width form) C ++ c = drop-append-le (width form) C c (omega arith) in
      let i = curves_snoc P (drop (worst_marks form) W) (drop (width form) C) w c p (simp length-drop (omega arith)) (simp length-drop (omega arith)) in
      rw (tw, dw, tc, dc, i)
      (sym (append_assoc (framed (rec (curve_kind form field) (body_of form field x W C))) (flat (curve_records form field P (drop (worst_marks form) W) (drop (width form) C))) (framed (rec (curve_kind form field) (body_of form field p w c)))))

  -- ---- from bytes with the right heads to the records and back

  lead_head : (k : ℕ) (d : List ℕ) → curves_lead form field (suc k) d ≡ true → Head d 0 (2 + body_bytes form field) (curve_kind form field)
  unfolding records_lead
  lead_head k d t = head_out d 0 (2 + body_bytes form field) (curve_kind form field) (and_left (head_at d 0 (2 + body_bytes form field) (curve_kind form field)) (curves_lead form field k (drop (curve_bytes form field) d)) t)

  lead_rest : (k : ℕ) (d : List ℕ) → curves_lead form field (suc k) d ≡ true → curves_lead form field k (drop (curve_bytes form field) d) ≡ true
  unfolding records_lead
  lead_rest k d t = and_right (head_at d 0 (2 + body_bytes form field) (curve_kind form field)) (curves_lead form field k (drop (curve_bytes form field) d)) t

  -- the first record tells the form
  pub lead_kind : (k : ℕ) (d : List ℕ) → 0 < k → curves_lead form field k d ≡ true → num 2 d 4 ≡ curve_kind form field
  lead_kind zero d h t = absurd (omega arith)
  lead_kind (suc k) d h t = (lead_head k d t).kind_is

  pub curves-front : (k : ℕ) (d : List ℕ) → all_fit 1 d ≡ true → curve_bytes form field * k ≤ length d → curves_lead form field k d ≡ true
      → flat (curve_records form field (firsts_of form field k d) (worsts_of form field k d) (curves_of form field k d)) ++ drop (curve_bytes form field * k) d ≡ d
  unfolding in_each flat curve_records
  curves-front zero d g h t = rw (mul-zero (curve_bytes form field))
  curves-front (suc k) d g h t =
      let S : ℕ = curve_bytes form field in
      let w : List ℕ = row f (worst_marks form) (drop (6 + f) d) in
      let c : List ℕ = row 8 (width form) (drop (numbers_at form field) d) in
      let W : List ℕ = worsts_of form field k (drop S d) in
      let C : List ℕ = curves_of form field k (drop S d) in
      let rs : List ℕ = flat (curve_records form field (firsts_of form field k (drop S d)) W C) in
      let body : List ℕ = le f (num f d 6) ++ (row_bytes f w ++ les c) in
      let tw : take (worst_marks form) (w ++ W) ≡ w = take_at w W (worst_marks form) (length-row f (worst_marks form) (drop (6 + f) d)) in
      let dw : drop (worst_marks form) (w ++ W) ≡ W = drop_at w W (worst_marks form) (length-row f (worst_marks form) (drop (6 + f) d)) in
      let tc : take (width form) (c ++ C) ≡ c = take_at c C (width form) (length-row 8 (width form) (drop (numbers_at form field) d)) in
      let dc : drop (width form) (c ++ C) ≡ C = drop_at c C (width form) (length-row 8 (width form) (drop (numbers_at form field) d)) in
      let e : S + S * k ≡ S * suc k = omega arith in
      let j : drop (S * k) (drop S d) ≡ drop (S * suc k) d = rw (drop-drop, e) in
      let i : rs ++ drop (S * k) (drop S d) ≡ drop S d = curves-front k (drop S d) (fit-drop 1 S d g) (simp length-drop (omega arith)) (lead_rest k d t) in
      let e_n : 6 + f + f * worst_marks form ≡ numbers_at form field = omega arith in
      let e_s : numbers_at form field + 8 * width form ≡ S = omega arith in
      let j_s : drop (8 * width form) (drop (numbers_at form field) d) ≡ drop S d = rw (drop-drop, e_s) in
      let j_n : drop (f * worst_marks form) (drop (6 + f) d) ≡ drop (numbers_at form field) d = rw (drop-drop, e_n) in
      let j8 : drop f (drop 6 d) ≡ drop (6 + f) d = drop-drop f 6 d in
      let b_n : les c ++ drop S d ≡ drop (numbers_at form field) d =
      rw (← j_s) (row-front 8 (width form) (drop (numbers_at form field) d) (fit-drop 1 (numbers_at form field) d g) (simp length-drop (omega arith))) in
      let b8 : row_bytes f w ++ drop (numbers_at form field) d ≡ drop (6 + f) d = rw (← j_n) (row-front f (worst_marks form) (drop (6 + f) d) (fit-drop 1 (6 + f) d g) (simp length-drop (omega arith))) in
      let b6 : le f (num f d 6) ++ drop (6 + f) d ≡ drop 6 d = rw (← j8) (le-front (drop 6 d) f (num f d 6) (fit-drop 1 6 d g) (simp length-drop (omega arith)) refl) in
      let b : body ++ drop S d ≡ drop 6 d = simp (append_assoc, b_n, b8, b6) in
      let s : 2 + length body ≡ 2 + body_bytes form field = simp (length-append, length-le, length-bytes, length-row) (omega arith) in
      let r : framed (rec (curve_kind form field) body) ++ drop S d ≡ d = framed-front d (curve_kind form field) (2 + body_bytes form field) body (drop S d) g (omega arith) s (lead_head k d t) b in
      let q = append_assoc (framed (rec (curve_kind form field) body)) rs (drop (S * suc k) d) in
      rw (row_one, tw, dw, tc, dc, q, ← j, i) r

  -- ---- from the records to their bytes and back

  pub record Opened (k : ℕ) (d P W C : List ℕ) : Type 0 where
    pub heads : curves_lead form field k d ≡ true
    pub firsts : firsts_of form field k d ≡ P
    pub worsts : worsts_of form field k d ≡ W
    pub curves : curves_of form field k d ≡ C

  pub opened : (P W C r : List ℕ) → all_fit f P ≡ true → all_fit f W ≡ true → all_fit 8 C ≡ true → length W ≡ worst_marks form * length P → length C ≡ width form * length P
      → Opened (length P) (flat (curve_records form field P W C) ++ r) P W C
  unfolding flat curve_records records_lead in_each
  opened [] W C r gp gw gc hw hc = record { heads = refl; firsts = refl; worsts = sym (empty W (omega arith)); curves = sym (empty C (omega arith)) }
  opened (p ∷ P) W C r gp gw gc hw hc =
      let w : List ℕ = take (worst_marks form) W in
      let c : List ℕ = take (width form) C in
      let W' : List ℕ = drop (worst_marks form) W in
      let C' : List ℕ = drop (width form) C in
      let body : List ℕ = body_of form field p W C in
      let rs : List ℕ = flat (curve_records form field P W' C') in
      let r' : List ℕ = rs ++ r in
      let lw : length w ≡ worst_marks form = length-take-le (worst_marks form) W (omega arith) in
      let lc : length c ≡ width form = length-take-le (width form) C (omega arith) in
      let z : 2 + length body ≡ 2 + body_bytes form field = ap (λ (x : ℕ). 2 + x) (length-body p W C (omega arith) (omega arith)) in
      let e : (framed (rec (curve_kind form field) body) ++ rs) ++ r ≡ framed (rec (curve_kind form field) body) ++ r' = append_assoc (framed (rec (curve_kind form field) body)) rs r in
      let hs : 2 + body_bytes form field < 256 ^ 4 = omega (arith, body-few form field) in
      let hk : curve_kind form field < 256 ^ 2 = omega (arith, kind-few form field) in
      let d : List ℕ = framed (rec (curve_kind form field) body) ++ r' in
      let hd : head_at d 0 (2 + body_bytes form field) (curve_kind form field) ≡ true = head_in d 0 (2 + body_bytes form field) (curve_kind form field) (framed_head (curve_kind form field) (2 + body_bytes form field) body r' z hs hk) in
      let d6 : drop 6 d ≡ le f p ++ (row_bytes f w ++ (les c ++ r')) = framed-body (curve_kind form field) (2 + body_bytes form field) body r' z hs hk ∙ simp append_assoc in
      let v : num f d 6 ≡ p = rw d6 (val-front f p (row_bytes f w ++ (les c ++ r')) (fit_head f p P gp)) in
      let j8 : drop f (drop 6 d) ≡ drop (6 + f) d = drop-drop f 6 d in
      let d8 : drop (6 + f) d ≡ row_bytes f w ++ (les c ++ r') = sym j8 ∙ rw d6 (drop-front f p (row_bytes f w ++ (les c ++ r'))) in
      let e_n : 6 + f + f * worst_marks form ≡ numbers_at form field = omega arith in
      let e_s : numbers_at form field + 8 * width form ≡ curve_bytes form field = omega arith in
      let j_n : drop (f * worst_marks form) (drop (6 + f) d) ≡ drop (numbers_at form field) d = rw (drop-drop, e_n) in
      let d_n : drop (numbers_at form field) d ≡ les c ++ r' = sym j_n ∙ rw d8 (drop_at (row_bytes f w) (les c ++ r') (f * worst_marks form) (length-bytes f w ∙ rw lw)) in
      let j_s : drop (8 * width form) (drop (numbers_at form field) d) ≡ drop (curve_bytes form field) d = rw (drop-drop, e_s) in
      let d_s : drop (curve_bytes form field) d ≡ r' = sym j_s ∙ rw d_n (drop_at (les c) r' (8 * width form) (length-bytes 8 c ∙ rw lc)) in
      let vw : row f (worst_marks form) (drop (6 + f) d) ≡ w = rw d8 (rw lw at (row_back f w (les c ++ r') (fit-take f (worst_marks form) W gw))) in
      let vc : row 8 (width form) (drop (numbers_at form field) d) ≡ c = rw d_n (rw lc at (row_back 8 c r' (fit-take 8 (width form) C gc))) in
      let i = opened P W' C' r (fit_tail f p P gp) (fit-drop f (worst_marks form) W gw) (fit-drop 8 (width form) C gc) (simp length-drop (omega arith)) (simp length-drop (omega arith)) in
      record {
        heads = rw e (simp (hd, d_s, i.heads));
        firsts = rw e (simp (row_one, v, d_s, i.firsts));
        worsts = rw e (simp (vw, d_s, i.worsts) (take-append-drop (worst_marks form) W));
        curves = rw e (simp (vc, d_s, i.curves) (take-append-drop (width form) C));
      }
