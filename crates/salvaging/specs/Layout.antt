-- The words of inner contracts. No public promise cites these. Definitions only.
use Rattle.std.specs.Prelude.{ℕ, ◌+◌, ◌*◌, List, length, drop}
use Rattle.float.specs.Answer.{Answer, ok, refused}
use Rattle.house.specs.Limits.{mark_numbers, mark_bytes, marks_at}
use Rattle.house.specs.Bytes.{words, les}
use Rattle.sieve.specs.declared.Fate.{Fate}
use Rattle.sieve.specs.declared.Fate.TheVariants.{Kept, Dropped}
use Rattle.sieve.specs.Sieve.{kept_by, drop_by, kept_of, drops_of}
use Rattle.salvaging.specs.declared.walks.Part.{Part}
use Rattle.salvaging.specs.declared.walks.Part.TheVariants.{Marks, Lines}
use Rattle.salvaging.specs.Report.{drop_lines}
use Rattle.salvaging.specs.declared.Sizes.{Sizes}
use Rattle.salvaging.specs.Salvage.{sizes}

-- the first n marks of a file, and mark i, by their bits
abbrev pub marks_of : List ℕ → ℕ → List ℕ
marks_of b n = words (mark_numbers * n) (drop marks_at b)

abbrev pub mark_of : List ℕ → ℕ → List ℕ
mark_of b i = words mark_numbers (drop (marks_at + mark_bytes * i) b)

-- what is put for mark i: its bytes, where it is kept, or its line, where it is dropped
abbrev pub piece_of : Part → List ℕ → ℕ → Fate → List ℕ
piece_of Marks b i f = les (kept_by f (mark_of b i))
piece_of Lines b i f = drop_lines (drop_by i f)

-- how many bytes that is, which the file has no say in
abbrev pub mark_length : Fate → ℕ
mark_length Kept = mark_bytes
mark_length (Dropped c) = 0

abbrev pub piece_length : Part → ℕ → Fate → ℕ
piece_length Marks i f = mark_length f
piece_length Lines i f = length (drop_lines (drop_by i f))

-- what is put for the first n marks
abbrev pub part_of : Part → List ℕ → ℕ → List ℕ
part_of Marks b n = les (kept_of (marks_of b n))
part_of Lines b n = drop_lines (drops_of (marks_of b n))

-- the answer where there is no file, and so many bytes of a line
abbrev pub alone : Answer ℕ → Answer Sizes
alone (ok n) = ok (sizes 0 n)
alone (refused q) = refused q
