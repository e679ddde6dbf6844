-- What holds of every file that is cleaned: the statements. What holds of its marks alone, that kept and dropped add up and each is one of them, once, is in `sieve`. Definitions only.
use Rattle.std.specs.Prelude.{ℕ, ◌+◌, ◌*◌, ◌≤◌, ◌≡◌, List, [], length}
use Rattle.float.specs.Answer.{ok}
use Rattle.house.specs.File.{File, marks_in, bytes_of}
use Rattle.packed.specs.Unpacked.{held_of}
use Rattle.salvaging.specs.Report.{report_of}
use Rattle.salvaging.specs.Salvage.{cleaned, Texts, texts_of, salvage_texts, most_cleaned, bench_texts}

-- what the cleaned file is cleaned to: the same bytes, and a list of no mark
abbrev pub unchanged : File → Texts
unchanged F = record { file = bytes_of (cleaned F); report = report_of (marks_in (cleaned F)) [] }

-- the cleaned file of any bytes that are a file
abbrev pub Twice : Type 0
Twice = (b : List ℕ) (F : File) → held_of b ≡ ok F → salvage_texts (bytes_of (cleaned F)) ≡ ok (unchanged F)

-- and by the program, if it took those bytes
abbrev pub TwiceAtTheBench : Type 0
TwiceAtTheBench = (b : List ℕ) (F : File) → held_of b ≡ ok F → marks_in F ≤ most_cleaned → bench_texts (bytes_of (cleaned F)) ≡ ok (unchanged F)

-- room that is always enough: for the cleaned file as many bytes as the file has, for the list 55 and 21 for each mark
abbrev pub Enough : Type 0
Enough = (b : List ℕ) (F : File) → held_of b ≡ ok F → (length (texts_of F).file ≤ length b) × (length (texts_of F).report ≤ 55 + 21 * marks_in F)
