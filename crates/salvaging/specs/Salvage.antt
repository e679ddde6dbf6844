-- A house file, cleaned: from its bytes to those of a file with its tolerance and the marks kept, and the list of the others. Definitions only.
use Rattle.std.specs.Prelude.{ℕ, ◌&&◌, cond, List, [], leb, length}
use Rattle.float.specs.Answer.{Answer, ok, refused, unless, ◌>>=◌}
use Rattle.float.specs.Slices.{written}
use Rattle.limits.specs.Limits.{most_read}
use Rattle.form.specs.declared.Form.TheVariants.{Eight}
use Rattle.lines.specs.Lines.{refusal_line}
use Rattle.house.specs.Limits.{too_many, no_room, badly_formed}
use Rattle.house.specs.File.{File, marks_in, bytes_of}
use Rattle.packed.specs.Unpacked.{held_of}
use Rattle.sieve.specs.Sieve.{kept_of, drops_of}
use Rattle.salvaging.specs.declared.Sizes.{Sizes}
use Rattle.salvaging.specs.Report.{report_of}

-- ---- what a file is cleaned to

-- its tolerance and the marks kept, and no curves
unfoldable pub cleaned : File → File
cleaned F = record {
  form = Eight;
  tolerance = F.tolerance;
  marks = kept_of F.marks;
  firsts = [];
  worsts = [];
  curves = [];
  params = [];
}

-- the bytes of a file, and the list of the marks dropped
pub record Texts : Type 0 where
  pub file : List ℕ
  pub report : List ℕ

unfoldable pub texts_of : File → Texts
texts_of F = record { file = bytes_of (cleaned F); report = report_of (marks_in (cleaned F)) (drops_of F.marks) }

-- 9, or both texts, of a file in either form. Of its numbers only the tolerance and the marks count.
unfoldable pub salvage_texts : List ℕ → Answer Texts
salvage_texts b = do
  F ← held_of b
  ok (texts_of F)

-- ---- how they are handed over

-- how many bytes each has
abbrev pub sizes : ℕ → ℕ → Sizes
sizes f r = record { file = f; report = r }

-- the answer, and the lent bytes as they are left
pub record Salvage : Type 0 where
  pub answer : Answer Sizes
  pub out : List ℕ
  pub report : List ℕ

abbrev pub salvage : Answer Sizes → List ℕ → List ℕ → Salvage
salvage a O R = record { answer = a; out = O; report = R }

-- each text fills the first places of its slice; where they are too few in one of the two, 4, and both stay
unfoldable pub hand_both : List ℕ → List ℕ → Texts → Salvage
hand_both O R t = cond (leb (length t.file) (length O) && leb (length t.report) (length R)) (salvage (ok (sizes (length t.file) (length t.report))) (written t.file O) (written t.report R)) (salvage (refused no_room) O R)

-- a refusal leaves both as they were
abbrev pub both_to : List ℕ → List ℕ → Answer Texts → Salvage
both_to O R (ok t) = hand_both O R t
both_to O R (refused q) = salvage (refused q) O R

unfoldable pub salvage_of : List ℕ → List ℕ → List ℕ → Salvage
salvage_of b O R = both_to O R (salvage_texts b)

-- ---- what the program prints

-- the most marks that it cleans
abbrev pub most_cleaned : ℕ
most_cleaned = 512

-- 9 or 2, or both texts
unfoldable pub bench_texts : List ℕ → Answer Texts
bench_texts b = unless badly_formed (leb (length b) most_read) do
  F ← held_of b
  unless too_many (leb (marks_in F) most_cleaned) (ok (texts_of F))

-- a refusal has no file, and one line in place of the list
abbrev pub both_shown : Answer Texts → Texts
both_shown (ok t) = t
both_shown (refused q) = record { file = []; report = refusal_line q }

unfoldable pub printed_of : List ℕ → List ℕ → List ℕ → Salvage
printed_of b O R = hand_both O R (both_shown (bench_texts b))
