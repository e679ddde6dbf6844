-- Room that is always enough. Assumes nothing.
use Prim.Native.Nat.{ℕ, zero, suc, ◌+◌, ◌*◌, ◌/◌, ◌^◌, ◌<◌, ◌≤◌}
use mathlib.Core.Path.{◌≡◌, refl, ap, ◌∙◌}
use mathlib.Core.List.{List, [], ◌∷◌, ◌++◌}
use native.Mathlib.Omega.{arith}
use lib.ListN.{length, length-append}
use Rattle.form.specs.declared.Form.{Form}
use Rattle.text.proofs.Digits.{decimal-length}
use Rattle.house.specs.File.{File, marks_in, curves_in}
use Rattle.house.specs.Layout.{size_for}
use Rattle.grammar.proofs.Formed.{formed}
use Rattle.grammar.proofs.Rooms.{size_none, size_some}
use Rattle.grammar.proofs.Whole.{length-bytes}
use Rattle.packed.specs.Layout.{packed_size}
use Rattle.packed.proofs.Sizes.{packed_size_none, packed_size_some, packed_length_is}
use Rattle.packed.proofs.Candidate.{Stored, twice, once, held_stored, stored_formed}
use Rattle.sieve.specs.declared.Fate.{Fate}
use Rattle.sieve.specs.declared.Fate.TheVariants.{Kept, Dropped}
use Rattle.std.proofs.Common.{None}
use Rattle.sieve.specs.Sieve.{drop_by, drops_from, fates_of, drops_of}
use Rattle.sieve.proofs.Traces.{length-fates, adds}
use Rattle.salvaging.specs.Report.{count_line, drop_lines, report_of}
use Rattle.salvaging.specs.Salvage.{cleaned, texts_of}
use Rattle.salvaging.specs.Twice.{Enough}
use Rattle.salvaging.proofs.Lengths.{count-length, dropped_length, lines_append, lines_kept}
use Rattle.salvaging.proofs.Twice.{fewer, length-clean}

-- ---- the file

size-least : (form : Form) (n k : ℕ) → 20 + 16 * n ≤ size_for form n k
size-least form n zero = omega (arith, size_none form n {k = zero} refl)
size-least form n (suc k) = omega (arith, size_some form n {k = suc k} (omega arith))

packed_least : (form : Form) (n k : ℕ) → 20 + 16 * n ≤ packed_size form n k
packed_least form n zero = omega (arith, packed_size_none form n {k = zero} refl)
packed_least form n (suc k) = omega (arith, packed_size_some form n {k = suc k} (omega arith))

stored_least : {b : List ℕ} {F : File} → Stored b F → 20 + 16 * marks_in F ≤ length b
stored_least {b} {F} (twice h) = omega (arith, ap length h.bytes, length-bytes (formed F h.formed).sized, size-least F.form (marks_in F) (curves_in F))
stored_least {b} {F} (once h) = omega (arith, ap length h.bytes, packed_length_is (formed F h.formed).sized, packed_least F.form (marks_in F) (curves_in F))

-- ---- the list

-- the number of a mark has at most nine digits
line-most : (i : ℕ) (f : Fate) → i < 10 ^ 9 → length (drop_lines (drop_by i f)) ≤ 21
line-most i Kept h = omega (arith, ap length (lines_kept i {f = Kept} refl))
line-most i (Dropped c) h = omega (arith, dropped_length i {c = c} refl, decimal-length 8 i h)

lines_most : (fs : List Fate) (i : ℕ) → i + length fs ≤ 10 ^ 9 → length (drop_lines (drops_from i fs)) ≤ 21 * length fs
unfolding drops_from drop_lines
lines_most [] i h = omega arith
lines_most (f ∷ fs) i h =
    let a : length (drop_lines (drop_by i f)) ≤ 21 = line-most i f (omega arith) in
    let b : length (drop_lines (drops_from (suc i) fs)) ≤ 21 * length fs = lines_most fs (suc i) (omega arith) in
    let e : length (drop_lines (drop_by i f ++ drops_from (suc i) fs)) ≡ length (drop_lines (drop_by i f)) + length (drop_lines (drops_from (suc i) fs)) = ap length (lines_append (drop_by i f) (drops_from (suc i) fs)) ∙ length-append (drop_lines (drop_by i f)) (drop_lines (drops_from (suc i) fs)) in
    omega arith

list-most : (k : ℕ) (M : List ℕ) → k < 10 ^ 9 → length M / 2 < 10 ^ 9 → length (drops_of M) ≤ length M / 2 → length (report_of k (drops_of M)) ≤ 55 + 21 * (length M / 2)
unfolding report_of
list-most k M hk hn hd =
    let e = length-append (count_line k (length (drops_of M))) (drop_lines (drops_of M)) in
    let n = length-fates None M in
    omega (arith, count-length k (length (drops_of M)), decimal-length 8 k hk, decimal-length 8 (length (drops_of M)) (omega arith), lines_most (fates_of M) 0 (omega arith))

pub enough : Enough
unfolding texts_of
enough b F h =
    let w = stored_formed (held_stored h) in
    let f = (formed F w).few in
    let l = fewer F w in
    (omega (arith, stored_least (held_stored h), length-clean F w), list-most (marks_in (cleaned F)) F.marks (omega arith) (omega arith) (omega (arith, adds F.marks)))
