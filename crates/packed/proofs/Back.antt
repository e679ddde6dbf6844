-- The packed bytes of a file whose curves meet are laid out as one, and what they hold is the file. Assumes nothing.
use mathlib.Core.Path.{◌≡◌, refl, sym, ap, ◌∙◌}
use mathlib.Core.Bool.{true}
use mathlib.Core.List.{List, [], ◌∷◌, ◌++◌, append_assoc}
use Prim.Native.Nat.{ℕ, zero, suc, ◌+◌, ◌-◌, ◌*◌, ◌<◌, ◌≤◌, ◌^◌}
use native.Mathlib.Omega.{arith}
use lib.ListN.{length, take, drop, get_or, length-append, get_or-append}
use lib.Seq.{drop-drop, drop_at, drop-cons, take-add, take_all, get_or-append_seam}
use Rattle.form.specs.declared.Form.{Form}
use Rattle.form.specs.declared.Form.TheVariants.{Eight}
use Rattle.form.specs.Form.{width, worsts_for}
use Rattle.house.specs.declared.sizes.Field.{Field}
use Rattle.house.specs.declared.sizes.Field.TheVariants.{Two, Four}
use Rattle.house.specs.Limits.{field_for, mark_field, worst_marks}
use Rattle.house.specs.Bytes.{le, num, row, words, row_bytes, les, all_fit}
use Rattle.house.specs.File.{File, rec, framed, flat, marks_in, params_for}
use Rattle.house.proofs.Forms.{worsts-each}
use Rattle.house.proofs.Numbers.{fit_head, fit_tail, fit_cons, fit_append, fit_at, fit-take, fit-drop, val-front, drop-front}
use Rattle.house.proofs.Rows.{length-les, row_back, row_part}
use Rattle.grammar.proofs.Records.{Head, framed_head, framed-body}
use Rattle.grammar.proofs.Curves.{empty, row_one}
use Rattle.grammar.proofs.Formed.{Turn, Sized, Fit, Formed, params_some}
use Rattle.grammar.proofs.Back.{Fronted, fronted, params-back}
use Rattle.grammar.proofs.Candidate.{same_out}
use Rattle.packed.specs.Each.{each}
use Rattle.packed.specs.Packed.{flag, rest_numbers, entry_bytes, start_at, end_at, rest_at, worst_at, mark_at, entry_of, packed_body, packed_rest, packed_bytes, meets}
use Rattle.packed.specs.Unpacked.{flag_at, entry_at, first_place, start_place, rest_place, worst_place, firsts_in, worsts_in, numbers_in, packed_at}
use Rattle.packed.proofs.Each.{each_same, each_cut, each_at, each_piece}
use Rattle.packed.proofs.Sizes.{flag-few, rest_is, rest_long, rest-length, end_length, start_length, worsts-length, entry_length, entries_length, body-length, packed_none, packed_some, packed_are, packed_length_is, packed_size_some}
use Rattle.packed.proofs.Pieces.{part_of}
use Rattle.packed.proofs.Laid.{PackedLaid, plain, full}

-- what fits the field of mark numbers fits four bytes
fit-four : (field : Field) (xs : List ℕ) → all_fit (mark_field field) xs ≡ true → all_fit 4 xs ≡ true
unfolding all_fit
fit-four field [] g = refl
fit-four Two (x ∷ xs) g = fit_cons 4 x xs (omega (arith, fit_head 2 x xs g)) (fit-four Two xs (fit_tail 2 x xs g))
fit-four Four (x ∷ xs) g = g

-- curves that meet do so one by one
pub meets_at : {F : File} {n k : ℕ} → Sized F n k → meets F ≡ true → (i : ℕ) → suc i < k → end_at F i ≡ start_at F (suc i)
unfolding meets
meets_at {F} {n} {k} s h i l =
    let f : ℕ → List ℕ = end_at F in
    let g : ℕ → List ℕ = λ (i : ℕ). start_at F (suc i) in
    let e : each (k - 1) f ≡ each (k - 1) g = same_out _ _ (rw s.firsts at h) in
    let lf : (j : ℕ) → j < k - 1 → length (f j) ≡ 2 = λ j m. end_length s j (omega arith) in
    let lg : (j : ℕ) → j < k - 1 → length (g j) ≡ 2 = λ j m. start_length s (suc j) (omega arith) in
    let m : i < k - 1 = omega arith in
    let x : take 2 (drop (2 * i) (each (k - 1) f)) ≡ f i = each_piece 2 f (k - 1) i lf m in
    let y : take 2 (drop (2 * i) (each (k - 1) g)) ≡ g i = each_piece 2 g (k - 1) i lg m in
    sym x ∙ ap (λ (l : List ℕ). take 2 (drop (2 * i) l)) e ∙ y

-- where packed bytes are laid out for n marks and k curves, and hold the file there
pub record Packed-back (b : List ℕ) (F : File) (n k : ℕ) : Type 0 where
  pub laid : PackedLaid b F.form n k
  pub file : packed_at b F.form n k ≡ F

same_file : (b : List ℕ) (n k : ℕ) (F : File) → num 8 b 6 ≡ F.tolerance → words (2 * n) (drop 20 b) ≡ F.marks → firsts_in b F.form n k ≡ F.firsts → worsts_in b F.form n k ≡ F.worsts
    → numbers_in b F.form n k ≡ F.curves → words (params_for n k) (drop (entry_at F.form n k + 6) b) ≡ F.params → packed_at b F.form n k ≡ F
same_file b n k F e1 e2 e3 e4 e5 e6 = simp (e1, e2, e3, e4, e5, e6)

module _ (F : File) (b : List ℕ) (n k : ℕ) (f : Fronted b n F.tolerance F.marks (flat (packed_rest F))) (s : Sized F n k) where
  back-plain : F.form ≡ Eight → k ≡ 0 → Packed-back b F n k
  unfolding each row
  back-plain ef z =
      let r : length (flat (packed_rest F)) ≡ 0 = ap length (packed_none s z) in
      let p : length F.firsts ≡ 0 = s.firsts ∙ z in
      let w : length F.worsts ≡ 0 = s.worsts ∙ rw ef in
      let c : length F.curves ≡ 0 = s.curves ∙ rw z (omega arith) in
      let q : length F.params ≡ 0 = s.params ∙ rw z in
      record {
        laid = plain f.starts (omega (arith, f.size)) ef z;
        file = same_file b n k F f.tolerance f.marks (rw z (sym (empty F.firsts p))) (rw z (sym (empty F.worsts w))) (rw z (sym (empty F.curves c))) (rw z (sym (empty F.params q)));
      }

  module _ (g : Fit F (field_for n)) (few : 2 + 16 * n < 256 ^ 4) (some : 0 < k) (less : k < n) (short : 2 + length (packed_body F) < 256 ^ 4) (m : meets F ≡ true) (size : length b ≡ entry_at F.form n k + 6 + 8 * n) where
    abbrev form : Form
    form = F.form

    abbrev E : ℕ
    E = entry_bytes form

    abbrev last : List ℕ
    last = framed (rec 4 (les F.params))

    abbrev es : List ℕ
    es = each k (entry_of F)

    abbrev from5 : List ℕ
    from5 = les (start_at F 0) ++ (es ++ last)

    abbrev from1 : List ℕ
    from1 = le 4 (mark_at F 0) ++ from5

    -- ---- kind 8

    body-size : 2 + length (packed_body F) ≡ 2 + (21 + E * k)
    body-size = ap (λ (x : ℕ). 2 + x) (body-length s some)

    short_is : 2 + (21 + E * k) < 256 ^ 4
    short_is = omega (arith, body-size)

    kind_is : 8 < 256 ^ 2
    kind_is = omega arith

    behind : drop (20 + 16 * n) b ≡ framed (rec 8 (packed_body F)) ++ last
    behind = f.behind ∙ packed_some s some

    head : Head b (20 + 16 * n) (2 + (21 + E * k)) 8
    head =
        let h = framed_head 8 (2 + (21 + E * k)) (packed_body F) last body-size short_is kind_is in
        let j : drop 4 (drop (20 + 16 * n) b) ≡ drop (20 + 16 * n + 4) b = drop-drop 4 (20 + 16 * n) b in
        record { size_is = rw behind h.size_is; kind_is = rw (← j, behind) h.kind_is }

    at_flag : drop (flag_at n) b ≡ le 1 (flag form) ++ from1
    at_flag =
        let j : drop 6 (drop (20 + 16 * n) b) ≡ drop (flag_at n) b = drop-drop 6 (20 + 16 * n) b in
        sym j ∙ rw behind (framed-body 8 (2 + (21 + E * k)) (packed_body F) last body-size short_is kind_is ∙ rw s.firsts (simp append_assoc))

    flag-read : num 1 b (flag_at n) ≡ flag form
    flag-read = rw at_flag (val-front 1 (flag form) from1 (omega (arith, flag-few form)))

    at_1 : drop (flag_at n + 1) b ≡ from1
    at_1 = let j : drop 1 (drop (flag_at n) b) ≡ drop (flag_at n + 1) b = drop-drop 1 (flag_at n) b in sym j ∙ rw at_flag (drop-front 1 (flag form) from1)

    at_5 : drop (flag_at n + 1 + 4) b ≡ from5
    at_5 = let j : drop 4 (drop (flag_at n + 1) b) ≡ drop (flag_at n + 1 + 4) b = drop-drop 4 (flag_at n + 1) b in sym j ∙ rw at_1 (drop-front 4 (mark_at F 0) from5)

    at_21 : drop (flag_at n + 21) b ≡ es ++ last
    at_21 =
        let e : flag_at n + 1 + 4 + 16 ≡ flag_at n + 21 = omega arith in
        let j : drop 16 (drop (flag_at n + 1 + 4) b) ≡ drop (flag_at n + 21) b = rw (drop-drop, e) in
        sym j ∙ rw at_5 (drop_at (les (start_at F 0)) (es ++ last) 16 (length-les (start_at F 0) ∙ rw (start_length s 0 some)))

    -- ---- mark numbers

    marks_are : marks_in F ≡ n
    marks_are = rw s.marks (omega arith)

    mark-few : (j : ℕ) → j ≤ k → mark_at F j < 256 ^ 4
    unfolding all_fit
    mark-few j h =
        let a : marks_in F - 1 < 256 ^ 4 = omega (arith, marks_are) in
        let c : all_fit 4 (F.firsts ++ ((marks_in F - 1) ∷ [])) ≡ true = fit_append 4 F.firsts ((marks_in F - 1) ∷ []) (fit-four (field_for n) F.firsts g.firsts) (fit_cons 4 (marks_in F - 1) [] a refl) in
        fit_at 4 (F.firsts ++ ((marks_in F - 1) ∷ [])) j c (simp length-append (omega (arith, s.firsts)))

    -- ---- curve i

    module _ (i : ℕ) (h : i < k) where
      abbrev more : List ℕ
      more = drop (E * suc i) (es ++ last)

      abbrev tail : List ℕ
      tail = les (rest_at F i) ++ (row_bytes 4 (worst_at F i) ++ more)

      at_entry : drop (entry_at form n i) b ≡ le 4 (mark_at F (suc i)) ++ tail
      at_entry =
          let j : drop (E * i) (drop (flag_at n + 21) b) ≡ drop (entry_at form n i) b = drop-drop (E * i) (flag_at n + 21) b in
          sym j ∙ rw at_21 (each_at E (entry_of F) k i last (entry_length s) h ∙ simp append_assoc)

      next_read : num 4 b (entry_at form n i) ≡ mark_at F (suc i)
      next_read = rw at_entry (val-front 4 (mark_at F (suc i)) tail (mark-few (suc i) h))

      at_rest : drop (rest_place form n i) b ≡ tail
      at_rest = let j : drop 4 (drop (entry_at form n i) b) ≡ drop (rest_place form n i) b = drop-drop 4 (entry_at form n i) b in sym j ∙ rw at_entry (drop-front 4 (mark_at F (suc i)) tail)

      rest_read : words (rest_numbers form) (drop (rest_place form n i) b) ≡ rest_at F i
      rest_read = rw at_rest (rw (rest-length s i h) at (row_back 8 (rest_at F i) (row_bytes 4 (worst_at F i) ++ more) (fit-take 8 (rest_numbers form) (drop (width form * i + 2) F.curves) (fit-drop 8 (width form * i + 2) F.curves g.curves))))

      worst-read : row 4 (worst_marks form) (drop (worst_place form n i) b) ≡ worst_at F i
      worst-read =
          let j : drop (8 * rest_numbers form) (drop (rest_place form n i) b) ≡ drop (worst_place form n i) b = drop-drop (8 * rest_numbers form) (rest_place form n i) b in
          let d : drop (worst_place form n i) b ≡ row_bytes 4 (worst_at F i) ++ more = sym j ∙ rw at_rest (drop_at (les (rest_at F i)) (row_bytes 4 (worst_at F i) ++ more) (8 * rest_numbers form) (length-les (rest_at F i) ∙ rw (rest-length s i h))) in
          let w : all_fit 4 (worst_at F i) ≡ true = fit-take 4 (worst_marks form) (drop (worsts_for form i) F.worsts) (fit-drop 4 (worsts_for form i) F.worsts (fit-four (field_for n) F.worsts g.worsts)) in
          rw d (rw (worsts-length s i h) at (row_back 4 (worst_at F i) more w))

      end_read : words 2 (drop (rest_place form n i + 32) b) ≡ end_at F i
      end_read =
          let p : drop 32 (drop (rest_place form n i) b) ≡ drop (rest_place form n i + 32) b = drop-drop 32 (rest_place form n i) b in
          let r : take 2 (drop 4 (words (rest_numbers form) (drop (rest_place form n i) b))) ≡ words 2 (drop 32 (drop (rest_place form n i) b)) = row_part 8 4 2 (rest_numbers form) (drop (rest_place form n i) b) (omega (arith, rest_long form)) in
          let q : width form * i + 2 + 4 ≡ width form * i + 6 = omega arith in
          let t : take 2 (drop 4 (rest_at F i)) ≡ end_at F i = part_of 4 2 (rest_numbers form) (drop (width form * i + 2) F.curves) (omega (arith, rest_long form)) ∙ rw (drop-drop, q) in
          sym (ap (words 2) p) ∙ sym r ∙ rw rest_read t

    mark-read : (i : ℕ) → i ≤ k → num 4 b (first_place form n i) ≡ mark_at F i
    mark-read zero h = rw at_1 (val-front 4 (mark_at F 0) from5 (mark-few 0 h))
    mark-read (suc i) h = next_read i h

    start_read : (i : ℕ) → i < k → words 2 (drop (start_place form n i) b) ≡ start_at F i
    start_read zero h = rw at_5 (rw (start_length s 0 some) at (row_back 8 (start_at F 0) (es ++ last) (fit-take 8 2 (drop (width form * 0) F.curves) (fit-drop 8 (width form * 0) F.curves g.curves))))
    start_read (suc i) h = end_read i (omega arith) ∙ meets_at s m i h

    -- ---- the lists

    firsts-read : firsts_in b form n k ≡ F.firsts
    firsts-read =
        let one : (i : ℕ) → i < k → row 4 1 (drop (first_place form n i) b) ≡ take 1 (drop (1 * i) F.firsts) =
        λ i h.
        let x : mark_at F i ≡ get_or F.firsts i 0 = get_or-append F.firsts ((marks_in F - 1) ∷ []) 0 i (omega (arith, s.firsts)) in
        let z : 1 * i ≡ i = omega arith in
        row_one 4 (drop (first_place form n i) b) ∙ rw (mark-read i (omega arith), x, z, drop-cons F.firsts i 0 (omega (arith, s.firsts))) in
        each_same k _ (λ (i : ℕ). take 1 (drop (1 * i) F.firsts)) one ∙ each_cut 1 k F.firsts ∙ take_all (1 * k) F.firsts (omega (arith, s.firsts))

    worsts-read : worsts_in b form n k ≡ F.worsts
    worsts-read =
        let w : ℕ = worst_marks form in
        each_same k _ (λ (i : ℕ). take w (drop (w * i) F.worsts)) (λ i h. worst-read i h ∙ rw (worsts-each form i)) ∙ each_cut w k F.worsts ∙ take_all (w * k) F.worsts (omega (arith, s.worsts, worsts-each form k))

    numbers-read : numbers_in b form n k ≡ F.curves
    numbers-read =
        let w : ℕ = width form in
        let one : (i : ℕ) → i < k → words 2 (drop (start_place form n i) b) ++ words (rest_numbers form) (drop (rest_place form n i) b) ≡ take w (drop (w * i) F.curves) =
        λ i h.
        let j : drop 2 (drop (w * i) F.curves) ≡ drop (w * i + 2) F.curves = drop-drop 2 (w * i) F.curves in
        let a : take (2 + rest_numbers form) (drop (w * i) F.curves) ≡ start_at F i ++ rest_at F i = take-add 2 (rest_numbers form) (drop (w * i) F.curves) ∙ rw j in
        rw (start_read i h, rest_read i h) (sym (rw (rest_is form) at a)) in
        each_same k _ (λ (i : ℕ). take w (drop (w * i) F.curves)) one ∙ each_cut w k F.curves ∙ take_all (w * k) F.curves (omega (arith, s.curves))

    -- ---- the whole

    last_read : mark_at F k ≡ n - 1
    last_read = let e = get_or-append_seam F.firsts (marks_in F - 1) [] 0 in rw s.firsts at e ∙ ap (λ (x : ℕ). x - 1) marks_are

    back_full : Packed-back b F n k
    back_full =
        let eq : params_for n k ≡ n = params_some n some in
        let j : drop (E * k) (drop (flag_at n + 21) b) ≡ drop (entry_at form n k) b = drop-drop (E * k) (flag_at n + 21) b in
        let l : length es ≡ E * k = rw s.firsts at (entries_length s) in
        let d : drop (entry_at form n k) b ≡ last = sym j ∙ rw at_21 (drop_at es last (E * k) l) in
        let q = params-back b (entry_at form n k) n F.params (s.params ∙ eq) g.params (omega arith) d in
        record {
          laid = full f.starts
              (record {
                size = size;
                some = some;
                few = less;
                head8 = head;
                flag_is = flag-read;
                last_is = mark-read k (omega arith) ∙ last_read;
                firsts = rw firsts-read g.firsts;
                worsts = rw worsts-read g.worsts;
                head4 = q.0;
              });
          file = same_file b n k F f.tolerance f.marks firsts-read worsts-read numbers-read (rw eq q.1);
        }

-- the law
pub packed_back : {F : File} {n k : ℕ} → Formed F n k → 2 + length (packed_body F) < 256 ^ 4 → meets F ≡ true → Packed-back (packed_bytes F) F n k
packed_back {F} {n} {k} G short m = rw (packed_are F) (go G.way)
  where
    b : List ℕ
    b = framed (rec 1 (le 8 F.tolerance)) ++ (framed (rec 2 (les F.marks)) ++ flat (packed_rest F))

    f : Fronted b n F.tolerance F.marks (flat (packed_rest F))
    f = fronted n F.tolerance F.marks (flat (packed_rest F)) G.few G.fit.tolerance G.fit.marks G.sized.marks

    go : Turn F.form n k → Packed-back b F n k
    go (Turn.plain e z) = back-plain F b n k f G.sized e z
    go (Turn.full some less) = back_full F b n k f G.sized G.fit G.few some less short m (sym (ap length (packed_are F)) ∙ packed_length_is G.sized ∙ packed_size_some F.form n some)
