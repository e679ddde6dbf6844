-- Both texts of a file of n marks, as they are put together. Assumes nothing.
use Prim.Native.Nat.{ℕ, ◌+◌, ◌-◌, ◌*◌, ◌/◌, ◌≤◌}
use mathlib.Core.Path.{◌≡◌, refl, ap, ◌∙◌}
use mathlib.Core.List.{List, [], ◌++◌, append-nil, append_assoc}
use native.Mathlib.Omega.{arith}
use lib.ListN.{length, drop, length-append}
use lib.Seq.{sets}
use Rattle.float.specs.Slices.{written}
use Rattle.form.specs.declared.Form.TheVariants.{Eight}
use Rattle.text.specs.Put.{Put}
use Rattle.text.proofs.Stores.{one, next, written-sets}
use Rattle.house.specs.Bytes.{num, le, les}
use Rattle.house.specs.File.{File, marks_in, bytes_of}
use Rattle.house.specs.Held.{file_at}
use Rattle.house.proofs.Numbers.{length-le}
use Rattle.house.proofs.Rows.{length-words, length-les}
use Rattle.grammar.proofs.Whole.{bytes_are, rest_none}
use Rattle.sieve.specs.Sieve.{Drop, kept_of, drops_of}
use Rattle.sieve.proofs.Traces.{kept_and_dropped}
use Rattle.salvaging.specs.Report.{count_line, drop_lines, report_of}
use Rattle.salvaging.specs.Salvage.{cleaned, texts_of}
use Rattle.salvaging.specs.Layout.{marks_of}

module _ (b : List ℕ) (n : ℕ) where
  abbrev F : File
  F = file_at b Eight n 0

  abbrev K : List ℕ
  K = kept_of (marks_of b n)

  abbrev ds : List Drop
  ds = drops_of (marks_of b n)

  -- ---- how many marks there are, by their bytes

  module _ {marks : ℕ} (em : marks ≡ length (les K)) where
    pub by_bytes : (2 * (marks / 16) ≡ length K) × ((marks ≡ 16 * (marks / 16)) × (marks / 16 ≤ n))
    by_bytes =
        let l = length-les K in
        let a = kept_and_dropped (marks_of b n) in
        let w = length-words (2 * n) (drop 20 b) in
        (omega arith, (omega arith, omega arith))

  module _ (kept : ℕ) (ek : 2 * kept ≡ length K) where
    pub kept_is : marks_in (cleaned F) ≡ kept
    unfolding cleaned
    kept_is = omega (arith, ek)

    pub dropped_is : n - kept ≡ length ds
    dropped_is = omega (arith, ek, kept_and_dropped (marks_of b n), length-words (2 * n) (drop 20 b))

    -- ---- the file

    abbrev text : List ℕ
    text = (((le 4 10 ++ le 2 1) ++ le 8 (num 8 b 6)) ++ (le 4 (2 + 16 * kept) ++ le 2 2)) ++ les K

    file_is : bytes_of (cleaned F) ≡ text
    unfolding cleaned
    file_is =
        let s : 2 + length (les K) ≡ 2 + 16 * kept = omega (arith, length-les K) in
        bytes_are (cleaned F) ∙ rw (rest_none Eight _ [] [] [] [] refl, length-le 8 (num 8 b 6), s) (simp (append_assoc, append-nil))

    pub file-length : length (bytes_of (cleaned F)) ≡ 20 + 16 * kept
    file-length = rw file_is (simp (length-append, length-le, length-les) (omega (arith, ek)))

    pub file-put : (O : List ℕ) → 20 + 16 * kept ≤ length O → {m1 m2 m3 m4 : List ℕ} {t s r : ℕ} → m1 ≡ sets O 0 (le 4 10 ++ le 2 1) → t ≡ num 8 b 6 → m2 ≡ sets m1 6 (le 8 t) → s ≡ 2 + 16 * kept → m3 ≡ sets m2 14 (le 4 s ++ le 2 2) → Put m3 20 (les K) m4 r
        → m4 ≡ written (bytes_of (cleaned F)) O
    file-put O h {m1} {m2} {m3} {m4} {t} {s} e1 et e2 es e3 p =
        let l1 : 6 ≡ 0 + length (le 4 10 ++ le 2 1) = simp (length-append, length-le) (omega arith) in
        let l2 : 14 ≡ 6 + length (le 8 t) = simp length-le (omega arith) in
        let l3 : 20 ≡ 14 + length (le 4 s ++ le 2 2) = simp (length-append, length-le) (omega arith) in
        let q = next (next (next (one O 0 (le 4 10 ++ le 2 1) (l1, e1)) (one m1 6 (le 8 t) (l2, e2))) (one m2 14 (le 4 s ++ le 2 2) (l3, e3))) p in
        let o : m4 ≡ sets O 0 text = rw (et, es) at q.out in
        o ∙ rw (← file_is) (written-sets (bytes_of (cleaned F)) O (rw file-length h))

  -- ---- the list

  module _ (kept : ℕ) (ed : n - kept ≡ length ds) where
    report_is : report_of kept ds ≡ count_line kept (n - kept) ++ drop_lines ds
    unfolding report_of
    report_is = rw ed

    pub report-room : length (report_of kept ds) ≡ length (count_line kept (n - kept)) + length (drop_lines ds)
    report-room = rw report_is (length-append (count_line kept (n - kept)) (drop_lines ds))

    pub report-put : (O : List ℕ) → length (report_of kept ds) ≤ length O → {m1 m2 : List ℕ} {e r : ℕ} → Put O 0 (count_line kept (n - kept)) m1 e → Put m1 e (drop_lines ds) m2 r → m2 ≡ written (report_of kept ds) O
    report-put O h p q = (next p q).out ∙ rw (← report_is) (written-sets (report_of kept ds) O h)

  -- ---- both

  module _ (kept : ℕ) (ek : 2 * kept ≡ length K) where
    pub file-size : length (texts_of F).file ≡ 20 + 16 * kept
    unfolding texts_of
    file-size = file-length kept ek

    report_same : (texts_of F).report ≡ report_of kept ds
    unfolding texts_of
    report_same = rw (kept_is kept ek)

    pub report-size : {c lines : ℕ} → c ≡ length (count_line kept (n - kept)) → lines ≡ length (drop_lines ds) → length (texts_of F).report ≡ c + lines
    report-size ec el = ap length report_same ∙ report-room kept (dropped_is kept ek) ∙ rw (ec, el)

    pub report-fits : {c lines m : ℕ} → c ≡ length (count_line kept (n - kept)) → lines ≡ length (drop_lines ds) → c + lines ≤ m → length (report_of kept ds) ≤ m
    report-fits ec el h = omega (arith, report-room kept (dropped_is kept ek))

    pub whole-file : (O : List ℕ) {O' : List ℕ} → O' ≡ written (bytes_of (cleaned F)) O → O' ≡ written (texts_of F).file O
    unfolding texts_of
    whole-file O e = e

    pub whole-report : (R : List ℕ) {R' : List ℕ} → R' ≡ written (report_of kept ds) R → R' ≡ written (texts_of F).report R
    whole-report R e = rw report_same e
