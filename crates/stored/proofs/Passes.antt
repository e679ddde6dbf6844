-- Every file that `save_fit` writes passes `judge_file`. Assumes nothing.
use mathlib.Core.Path.{◌≡◌, refl, sym, ap, ◌∙◌}
use mathlib.Core.Bool.{true}
use mathlib.Core.List.{List, [], append-nil, map-append}
use Prim.Native.Nat.{ℕ, ◌*◌, ◌/◌, ◌<◌, ◌≤◌}
use native.Mathlib.Omega.{arith}
use borrow.Author.Tests.{le-leb, ne_eqb}
use lib.Seq.{take_at}
use lib.ListN.{length, take, drop, length-map}
use lib.Ieee.{Float, binary64, of_bits, to_bits}
use Rattle.float.specs.Answer.{Answer, ok, refused}
use Rattle.float.specs.Slices.{written}
use Rattle.marks.specs.Marks.{count}
use Rattle.marks.specs.Block.{block_size}
use Rattle.form.specs.Form.{record_numbers}
use Rattle.form.specs.declared.Form.TheVariants.{Nine}
use Rattle.cut.specs.Run.{Beside, firsts_of, worsts_of}
use Rattle.ring.specs.declared.Outline.TheVariants.{Open}
use Rattle.tangents.specs.declared.Cutting.TheVariants.{Joined}
use Rattle.tangents.specs.Ways.{over}
use Rattle.gate.proofs.Tests.{passes}
use Rattle.blocks.specs.Blocks.{blocks_of}
use Rattle.fit.specs.Fit.{Ending, ending}
use Rattle.fit.proofs.Entries.{size_within, passed-usable}
use Rattle.checker.specs.Check.{passed, check_of}
use Rattle.sound.specs.Sound.{Sound}
use Rattle.sound.proofs.Sound.{sound-passes}
use Rattle.accepted.proofs.Laid.{laid_many, laid-curves}
use Rattle.accepted.proofs.Theorem.{Given, blocks-given, laid-sound}
use Rattle.lines.specs.Lines.{two_line}
use Rattle.limits.specs.Limits.{most_marks, most_read}
use Rattle.house.specs.declared.sizes.Field.{Field}
use Rattle.house.specs.Limits.{curve_bytes}
use Rattle.house.specs.File.{File, bytes_of, marks_in, curves_in, well_formed}
use Rattle.house.proofs.Forms.{small_field, form_some}
use Rattle.float.proofs.Answers.{not_refused}
use Rattle.grammar.proofs.Formed.{Formed, full, forming, params_some}
use Rattle.grammar.proofs.Rooms.{size_some}
use Rattle.grammar.proofs.Whole.{length-bytes}
use Rattle.packed.proofs.Candidate.{holds_held}
use Rattle.writer.specs.Writer.{file_for}
use Rattle.desk.specs.Desk.{room_marks, floats, patterns, zeros, no_marks, file_in}
use Rattle.desk.proofs.Numbers.{front, length-floats, length-patterns}
use Rattle.desk.proofs.Opened.{file-formed}
use Rattle.verdict.specs.Verdict.{passed_word, list_in, verdict_in, file_line, line_of, judgement_of}
use Rattle.saving.specs.Saving.{roomy_fit, file_with, saved_file}
use Rattle.saving.proofs.Takes.{Listing, fit-listing}
use Rattle.stored.specs.Stored.{SavedPasses}
use Rattle.stored.proofs.Values.{Held, held-floats, back, bits_fit}
use Rattle.stored.proofs.Parts.{blocks-held}

-- ---- the list of a joined fit, by itself

module _ (ms : List Float) (tol : Float) (k : ℕ) (C C' : List Float) (F F' W W' : List ℕ) (P P' : List Float) (d : Given ms tol k C C' F F' W W' P P' Joined) where
  -- as long as its curves and marks want
  pub curves_long : length d.cs ≡ record_numbers * k
  curves_long = laid-curves d.laid ∙ ap (λ (n : ℕ). record_numbers * n) (sym d.many)

  pub firsts_long : length (firsts_of d.bs) ≡ k
  firsts_long = length-map d.bs (λ b. b.first) ∙ sym d.many

  pub worsts_long : length (worsts_of d.bs) ≡ k
  worsts_long = length-map d.bs (λ b. b.worst) ∙ sym d.many

  pub params_long : length d.ps ≡ count ms
  params_long = let two = d.gate.two in laid_many d.laid ∙ omega arith

  same : {cs cs' : List Float} {fs fs' ws ws' : List ℕ} {ps ps' : List Float} {j : ℕ} → cs ≡ cs' → fs ≡ fs' → ws ≡ ws' → ps ≡ ps' → k ≡ j → Sound Nine ms tol j cs' fs' ws' ps' → Sound Nine ms tol k cs fs ws ps
  same a b w c e s = rw (a, b, w, c, e) s

  sound : Sound Nine ms tol k d.cs (firsts_of d.bs) (worsts_of d.bs) d.ps
  sound =
      let two = d.gate.two in
      same (sym (append-nil d.cs)) (sym (append-nil (firsts_of d.bs))) (sym (append-nil (worsts_of d.bs))) (sym (append-nil d.ps)) d.many
      (laid-sound ms tol d.cs d.bs d.ps [] [] [] [] (omega arith) d.laid)

  pub given-passes : check_of Open Nine ms tol k d.cs (firsts_of d.bs) (worsts_of d.bs) d.ps ≡ ok passed
  given-passes =
      let g = d.gate in
      let c = curves_long in
      let p = params_long in
      let f = firsts_long in
      let w = worsts_long in
      sound-passes Open Nine ms tol k d.cs (firsts_of d.bs) (worsts_of d.bs) d.ps
      (passes most_marks Open Nine k ms tol (length d.cs) (length (firsts_of d.bs)) (length (worsts_of d.bs)) (length d.ps) (record { even = g.even; two = g.two; most = g.most; curves = omega arith; firsts = omega arith; worsts = omega arith; params = omega arith; near = g.near; usable = g.usable }))
      sound

-- ---- its file

-- a file that the list checker passes, and the judge
pub record Passing (F : File) : Type 0 where
  pub formed : well_formed F ≡ true
  pub list : list_in F ≡ ok passed
  pub line : judgement_of (bytes_of F) ≡ two_line passed_word (marks_in F) (curves_in F)

front-patterns : (xs l : List Float) {m : List Float} (i : ℕ) → m ≡ written xs l → length xs ≡ i → take i (patterns m) ≡ patterns xs
front-patterns xs l i e h = rw (e, map-append (to_bits binary64) xs (drop (length xs) l)) (take_at (patterns xs) (patterns (drop (length xs) l)) i (length-patterns xs ∙ h))

abbrev file_over : ℕ → List ℕ → List Beside → List Float → List Float → File
file_over t M bs cs ps = record { form = Nine; tolerance = t; marks = M; firsts = firsts_of bs; worsts = worsts_of bs; curves = patterns cs; params = patterns ps }

module _ (t : ℕ) (M : List ℕ) (k : ℕ) (C C' : List Float) (F F' W W' : List ℕ) (P P' : List Float) (d : Given (floats M) (of_bits binary64 t) k C C' F F' W W' P P' Joined) where
  abbrev ms : List Float
  ms = floats M

  abbrev tol : Float
  tol = of_bits binary64 t

  abbrev G : File
  G = file_over t M d.bs d.cs d.ps

  half : count ms ≡ length M / 2
  half = rw (length-floats M)

  values : Held d.cs × Held d.ps
  unfolding over blocks_of
  values =
      let two = d.gate.two in
      let e = d.gate.even in
      let size = size_within (count ms) (block_size (count ms)) refl in
      blocks-held Joined refl ms (count ms) (block_size (count ms)) tol (held-floats M) (passed-usable d.gate) (omega arith) d.cs d.bs d.ps (omega arith) (omega arith) d.is_done

  same_file : 0 < k → file_for Nine t M k F' W' (patterns C') (patterns P') ≡ G
  unfolding file_for
  same_file some =
      rw (
        form_some Nine some,
        params_some (length M / 2) some,
        front (firsts_of d.bs) F k d.firsts (firsts_long ms tol k C C' F F' W W' P P' d),
        front (worsts_of d.bs) W k d.worsts (worsts_long ms tol k C C' F F' W W' P P' d),
        front-patterns d.cs C (record_numbers * k) d.curves (curves_long ms tol k C C' F F' W W' P P' d),
        front-patterns d.ps P (length M / 2) d.params (params_long ms tol k C C' F F' W W' P P' d ∙ half),
      )

  module _ (n j : ℕ) (O : File) (o : Formed O n j) (in-tolerance : O.tolerance ≡ t) (in-marks : O.marks ≡ M) (few-marks : n ≤ room_marks) (l : Listing M k F' W') where
    marks_long : length M ≡ 2 * n
    marks_long = sym (ap length in-marks) ∙ o.sized.marks

    whole-file : Formed G n k
    whole-file =
        let m = marks_long in
        let h = half in
        let v = values in
        let less = l.fewer in
        let e : length M / 2 ≡ n = omega arith in
        record {
          sized = record {
            marks = m;
            firsts = firsts_long ms tol k C C' F F' W W' P P' d;
            worsts = worsts_long ms tol k C C' F F' W W' P P' d;
            curves = length-patterns d.cs ∙ curves_long ms tol k C C' F F' W W' P P' d;
            params = length-patterns d.ps ∙ params_long ms tol k C C' F F' W W' P P' d ∙ rw (params_some n l.some) (omega arith);
          };
          way = full l.some (omega arith);
          few = o.few;
          fit = record {
            tolerance = rw (← in-tolerance) o.fit.tolerance;
            marks = rw (← in-marks) o.fit.marks;
            firsts = rw (e, front (firsts_of d.bs) F k d.firsts (firsts_long ms tol k C C' F F' W W' P P' d)) at l.fit;
            worsts = rw (e, front (worsts_of d.bs) W k d.worsts (worsts_long ms tol k C C' F F' W W' P P' d)) at l.worst-fit;
            curves = bits_fit v.0;
            params = bits_fit v.1;
          };
        }

    count-marks : marks_in G ≡ n
    count-marks = let m = marks_long in omega arith

    taken : file_in (bytes_of G) ≡ ok G
    unfolding file_in
    taken =
        let s = length-bytes whole-file.sized ∙ size_some Nine n l.some in
        let less = l.fewer in
        let m = marks_long in
        let c = count-marks in
        let z = ap (λ (f : Field). curve_bytes Nine f * k) (small_field n few-marks) in
        rw (le-leb (length (bytes_of G)) most_read (omega arith), holds_held (record { formed = forming whole-file; bytes = refl }), le-leb (marks_in G) room_marks (omega arith))

    list-passes : list_in G ≡ ok passed
    unfolding list_in
    list-passes = let v = values in rw (back v.0, back v.1, firsts_long ms tol k C C' F F' W W' P P' d) (given-passes ms tol k C C' F F' W W' P P' d)

    line-passes : judgement_of (bytes_of G) ≡ two_line passed_word (marks_in G) (curves_in G)
    unfolding line_of file_line verdict_in
    line-passes = let some = l.some in rw (taken, ne_eqb (curves_in G) 0 (λ e. omega (arith, firsts_long ms tol k C C' F F' W W' P P' d)), list-passes)

    file-passes : Passing G
    file-passes = record { formed = forming whole-file; list = list-passes; line = line-passes }

-- ---- whatever is saved

-- an ending that is an answer of k curves
answered : (E : Ending) (k : ℕ) → E.answer ≡ ok k → ending (ok k) E.curves E.firsts E.worsts E.params ≡ E
answered E k a = rw (← a) refl

-- a fit of a file that is taken
fit-passes : (b : List ℕ) (O : File) → file_in b ≡ ok O → (k : ℕ) (E : Ending) → E ≡ roomy_fit O.tolerance O.marks → E.answer ≡ ok k → (F : File)
    → file_for Nine O.tolerance O.marks k E.firsts E.worsts (patterns E.curves) (patterns E.params) ≡ F → Passing F
unfolding roomy_fit over
fit-passes b O x k E e a F q =
    let t = O.tolerance in
    let M = O.marks in
    let h = answered E k a ∙ e in
    let d = blocks-given (floats M) (of_bits binary64 t) k (zeros 36855) E.curves (no_marks 4095) E.firsts (no_marks 4095) E.worsts (zeros 4096) E.params Joined refl h in
    let l = fit-listing M (of_bits binary64 t) k (zeros 36855) E.curves (no_marks 4095) E.firsts (no_marks 4095) E.worsts (zeros 4096) E.params h in
    let f = file-formed b x in
    let same = same_file t M k (zeros 36855) E.curves (no_marks 4095) E.firsts (no_marks 4095) E.worsts (zeros 4096) E.params d l.some in
    is_passed F (sym q ∙ same) (file-passes t M k (zeros 36855) E.curves (no_marks 4095) E.firsts (no_marks 4095) E.worsts (zeros 4096) E.params d (marks_in O) (curves_in O) O f.0 refl refl f.1 l)
  where
    is_passed : (F : File) {G : File} → F ≡ G → Passing G → Passing F
    is_passed F e h = rw e h

-- a file that is given a fit's answer
with_passes : (b : List ℕ) (O F : File) → file_in b ≡ ok O → (a : Answer ℕ) → (roomy_fit O.tolerance O.marks).answer ≡ a → file_with O.tolerance O.marks (roomy_fit O.tolerance O.marks) ≡ ok F → Passing F
unfolding file_with
with_passes b O F x (ok k) a e = let s = rw a at e in fit-passes b O x k (roomy_fit O.tolerance O.marks) refl a F cc
with_passes b O F x (refused q) a e = let s = rw a at e in not_refused q (sym s)

pub saved_passing : (b : List ℕ) (F : File) → saved_file b ≡ ok F → Passing F
unfolding saved_file
saved_passing b F e = go (file_in b) refl e
  where
    go : (a : Answer File) → file_in b ≡ a → saved_file b ≡ ok F → Passing F
    go (ok O) x e = let s = rw x at e in with_passes b O F x (roomy_fit O.tolerance O.marks).answer refl s
    go (refused q) x e = let s = rw x at e in not_refused q (sym s)

pub saved_passes : SavedPasses
saved_passes b F e = (saved_passing b F e).line
