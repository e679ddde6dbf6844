-- Bytes that are laid out as a packed file are that file, packed. Assumes nothing.
use mathlib.Core.Path.{◌≡◌, refl, sym, ap, ◌∙◌}
use mathlib.Core.Bool.{true}
use mathlib.Core.List.{List, ◌++◌, append_assoc}
use Prim.Native.Nat.{ℕ, suc, ◌+◌, ◌-◌, ◌*◌, ◌<◌, ◌≤◌, ◌^◌}
use native.Mathlib.Omega.{arith}
use borrow.Author.Tests.{lt-ltb}
use lib.ListN.{length, take, drop, length-drop, drop_of_length-le, take-append-drop}
use lib.Seq.{drop-drop, take_at}
use Rattle.form.specs.declared.Form.{Form}
use Rattle.house.specs.Limits.{field_for, mark_field, worst_marks}
use Rattle.house.specs.Bytes.{le, num, row, words, row_bytes, les, all_fit}
use Rattle.house.specs.File.{File, rec, framed, flat, curves_in, params_for}
use Rattle.house.proofs.Forms.{within}
use Rattle.house.proofs.Numbers.{fit-drop, le-front}
use Rattle.house.proofs.Rows.{fit-num, fit_row, row-front}
use Rattle.grammar.proofs.Records.{framed-front}
use Rattle.grammar.proofs.Formed.{Turn, Fit, Formed, forming, params_some}
use Rattle.grammar.proofs.Laid.{Started}
use Rattle.grammar.proofs.Held.{few_at, head_at, start_held, params-held}
use Rattle.grammar.proofs.Candidate.{same_in}
use Rattle.packed.specs.Each.{each}
use Rattle.packed.specs.Packed.{flag, rest_numbers, entry_bytes, start_at, end_at, rest_at, worst_at, mark_at, entry_of, packed_body, packed_rest, short, meets, Packs}
use Rattle.packed.specs.Unpacked.{flag_at, entry_at, rest_place, worst_place, packed_at}
use Rattle.packed.proofs.Each.{each_same, each_cut, each-fit}
use Rattle.packed.proofs.Sizes.{entry_length, body-length, packed_none, packed_some, packed_are, short_none}
use Rattle.packed.proofs.Pieces.{sized_packed, start_piece, rest_piece, end_piece, worst_piece, mark_piece, fit-numbers}
use Rattle.packed.proofs.Laid.{Joined, PackedLaid, plain, full}

-- what is in front of a list is what it begins with
cut_front : (xs d : List ℕ) (n : ℕ) → length xs ≡ n → xs ++ drop n d ≡ d → xs ≡ take n d
cut_front xs d n l e = sym (take_at xs (drop n d) n l) ∙ ap (take n) e

-- each curve ends where the next one starts, for both are read from one place
meets_packed : (b : List ℕ) (form : Form) (n k : ℕ) → meets (packed_at b form n k) ≡ true
unfolding meets
meets_packed b form n k =
    let X : File = packed_at b form n k in
    let l : curves_in X ≡ k = (sized_packed b form n k).firsts in
    let e : each (k - 1) (end_at X) ≡ each (k - 1) (λ (i : ℕ). start_at X (suc i)) =
    each_same (k - 1) (end_at X) (λ (i : ℕ). start_at X (suc i)) (λ i h. end_piece b form n k i (omega arith) ∙ sym (start_piece b form n k (suc i) (omega arith))) in
    rw (l, e) (same_in _)

module _ (b : List ℕ) (g : all_fit 1 b ≡ true) (form : Form) (n k : ℕ) where
  abbrev X : File
  X = packed_at b form n k

  abbrev E : ℕ
  E = entry_bytes form

  -- so many numbers at a place, and what is behind them
  at_front : (f m p q : ℕ) → p + f * m ≡ q → q ≤ length b → row_bytes f (row f m (drop p b)) ++ drop q b ≡ drop p b
  at_front f m p q e h =
      let j : drop (f * m) (drop p b) ≡ drop q b = rw (drop-drop, e) in
      rw (← j) (row-front f m (drop p b) (fit-drop 1 p b g) (simp length-drop (omega arith)))

  num-front : (f p q : ℕ) → p + f ≡ q → q ≤ length b → le f (num f b p) ++ drop q b ≡ drop p b
  num-front f p q e h =
      let j : drop f (drop p b) ≡ drop q b = rw (drop-drop, e) in
      rw (← j) (le-front (drop p b) f (num f b p) (fit-drop 1 p b g) (simp length-drop (omega arith)) refl)

  formed_packed : Joined b form n k → Started b n → Formed X n k
  formed_packed j s = record {
    sized = sized_packed b form n k;
    way = Turn.full j.some j.few;
    few = few_at b g s;
    fit = record {
      tolerance = fit-num 8 6 b g;
      marks = fit_row 8 (2 * n) (drop 20 b) (fit-drop 1 20 b g);
      firsts = j.firsts;
      worsts = j.worsts;
      curves = fit-numbers b form n k g;
      params = fit_row 8 (params_for n k) (drop (entry_at form n k + 6) b) (fit-drop 1 (entry_at form n k + 6) b g);
    };
  }

  module _ (j : Joined b form n k) where
    -- a curve is what stands there
    entry_held : (i : ℕ) → i < k → entry_of X i ≡ take E (drop (entry_at form n i) b)
    entry_held i h =
        let w = within E k i h in
        let p : ℕ = entry_at form n i in
        let r : ℕ = rest_place form n i in
        let s : ℕ = worst_place form n i in
        let m : mark_at X (suc i) ≡ num 4 b p = mark_piece b form n k (suc i) h j.last_is in
        let c : rest_at X i ≡ words (rest_numbers form) (drop r b) = rest_piece b form n k i h in
        let v : worst_at X i ≡ row 4 (worst_marks form) (drop s b) = worst_piece b form n k i h in
        let a1 : le 4 (num 4 b p) ++ drop r b ≡ drop p b = num-front 4 p r refl (omega (arith, j.size)) in
        let a2 : les (words (rest_numbers form) (drop r b)) ++ drop s b ≡ drop r b = at_front 8 (rest_numbers form) r s refl (omega (arith, j.size)) in
        let a3 : row_bytes 4 (row 4 (worst_marks form) (drop s b)) ++ drop (p + E) b ≡ drop s b = at_front 4 (worst_marks form) s (p + E) (omega arith) (omega (arith, j.size)) in
        let q : drop E (drop p b) ≡ drop (p + E) b = drop-drop E p b in
        cut_front (entry_of X i) (drop p b) E (entry_length (sized_packed b form n k) i h) (rw (q, m, c, v) (simp (append_assoc, a3, a2, a1)))

    -- so the curves are what stands behind the first mark
    entries_held : each k (entry_of X) ++ drop (entry_at form n k) b ≡ drop (flag_at n + 21) b
    entries_held =
        let d : List ℕ = drop (flag_at n + 21) b in
        let e : each k (entry_of X) ≡ each k (λ (i : ℕ). take E (drop (E * i) d)) =
        each_same k (entry_of X) (λ (i : ℕ). take E (drop (E * i) d)) (λ i h. entry_held i h ∙ rw (drop-drop (E * i) (flag_at n + 21) b)) in
        let l : drop (E * k) d ≡ drop (entry_at form n k) b = drop-drop (E * k) (flag_at n + 21) b in
        rw (e, each_cut E k d, ← l) (take-append-drop (E * k) d)

    body-held : packed_body X ++ drop (entry_at form n k) b ≡ drop (flag_at n) b
    body-held =
        let l : curves_in X ≡ k = (sized_packed b form n k).firsts in
        let m : mark_at X 0 ≡ num 4 b (flag_at n + 1) = mark_piece b form n k 0 (omega arith) j.last_is in
        let s : start_at X 0 ≡ words 2 (drop (flag_at n + 1 + 4) b) = start_piece b form n k 0 j.some in
        let a1 : le 1 (flag form) ++ drop (flag_at n + 1) b ≡ drop (flag_at n) b = rw (← j.flag_is) (num-front 1 (flag_at n) (flag_at n + 1) refl (omega (arith, j.size))) in
        let a2 : le 4 (num 4 b (flag_at n + 1)) ++ drop (flag_at n + 1 + 4) b ≡ drop (flag_at n + 1) b = num-front 4 (flag_at n + 1) (flag_at n + 1 + 4) refl (omega (arith, j.size)) in
        let a3 : les (words 2 (drop (flag_at n + 1 + 4) b)) ++ drop (flag_at n + 21) b ≡ drop (flag_at n + 1 + 4) b = at_front 8 2 (flag_at n + 1 + 4) (flag_at n + 21) (omega arith) (omega (arith, j.size)) in
        rw (l, m, s) (simp (append_assoc, entries_held, a3, a2, a1))

    length-body : 2 + length (packed_body X) ≡ 2 + (21 + E * k)
    length-body = ap (λ (x : ℕ). 2 + x) (body-length (sized_packed b form n k) j.some)

    short-held : short X ≡ true
    short-held =
        let f : 2 + length (packed_body X) < 256 ^ 4 = omega (arith, length-body, j.head8.size_is, fit-num 4 (20 + 16 * n) b g) in
        lt-ltb _ _ f

    rest-held : flat (packed_rest X) ≡ drop (20 + 16 * n) b
    rest-held =
        let d : List ℕ = drop (20 + 16 * n) b in
        let eq : params_for n k ≡ n = params_some n j.some in
        let p : framed (rec 4 (les X.params)) ≡ drop (entry_at form n k) b = rw eq (params-held b g (entry_at form n k) n j.size j.head4) in
        let j6 : drop 6 d ≡ drop (flag_at n) b = drop-drop 6 (20 + 16 * n) b in
        packed_some (sized_packed b form n k) j.some ∙ rw p (framed-front d 8 (2 + (21 + E * k)) (packed_body X) (drop (entry_at form n k) b) (fit-drop 1 (20 + 16 * n) b g) (simp length-drop (omega (arith, j.size))) length-body (head_at b g (20 + 16 * n) j.head8) (body-held ∙ sym j6))

  -- without curves there is nothing to fit
  fit_none : k ≡ 0 → Fit X (field_for n)
  fit_none e = record {
    tolerance = fit-num 8 6 b g;
    marks = fit_row 8 (2 * n) (drop 20 b) (fit-drop 1 20 b g);
    firsts = each-fit (mark_field (field_for n)) k _ (λ i h. absurd (omega arith));
    worsts = each-fit (mark_field (field_for n)) k _ (λ i h. absurd (omega arith));
    curves = fit-numbers b form n k g;
    params = fit_row 8 (params_for n k) (drop (entry_at form n k + 6) b) (fit-drop 1 (entry_at form n k + 6) b g);
  }

  -- the law
  pub packed_held : PackedLaid b form n k → Packs b X
  packed_held (full s j) = record {
    formed = forming (formed_packed j s);
    short = short-held j;
    meets = meets_packed b form n k;
    bytes = packed_are X ∙ start_held b g n _ s (omega (arith, j.size)) (rest-held j);
  }
  packed_held (plain s z f e) =
      let r : flat (packed_rest X) ≡ drop (20 + 16 * n) b = packed_none (sized_packed b form n k) e ∙ sym (drop_of_length-le b {i = 20 + 16 * n} (omega arith)) in
      record {
        formed = forming (record { sized = sized_packed b form n k; way = Turn.plain f e; few = few_at b g s; fit = fit_none e });
        short = short_none (sized_packed b form n k) e;
        meets = meets_packed b form n k;
        bytes = packed_are X ∙ start_held b g n _ s (omega arith) r;
      }
