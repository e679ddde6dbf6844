-- Every file that `save_fit` writes passes `judge_file`, every file that passes can be packed, and what cleaning keeps is in range. Definitions only.
use Rattle.std.specs.Prelude.{◌≡◌, true, List, ℕ}
use Rattle.float.specs.Answer.{ok}
use Rattle.gate.specs.Gate.{in_range}
use Rattle.lines.specs.Lines.{two_line}
use Rattle.house.specs.File.{File, bytes_of, marks_in, curves_in}
use Rattle.house.specs.Held.{file_of}
use Rattle.packed.specs.Packed.{packed_bytes}
use Rattle.packer.specs.Packer.{packed_text}
use Rattle.checker.specs.Check.{passed}
use Rattle.verdict.specs.Verdict.{passed_word, list_in, judgement_of}
use Rattle.desk.specs.Desk.{floats}
use Rattle.saving.specs.Saving.{saved_file}
use Rattle.sieve.specs.Sieve.{kept_of}

-- whatever bytes b are saved as the file F, the judge's line on F's bytes is `PASSED`, with F's marks and curves
abbrev pub SavedPasses : Type 0
SavedPasses = (b : List ℕ) (F : File) → saved_file b ≡ ok F → judgement_of (bytes_of F) ≡ two_line passed_word (marks_in F) (curves_in F)

-- every file whose list the checker passes can be packed, whoever made it
abbrev pub PassedPacks : Type 0
PassedPacks = (b : List ℕ) (F : File) → file_of b ≡ ok F → list_in F ≡ ok passed → packed_text b ≡ ok (packed_bytes F)

-- so can every file that is saved
abbrev pub SavedPacks : Type 0
SavedPacks = (b : List ℕ) (F : File) → saved_file b ≡ ok F → packed_text (bytes_of F) ≡ ok (packed_bytes F)

-- the marks that cleaning keeps are in range, as every fit asks it: of a cleaned file a fit refuses by 5 for the tolerance alone
abbrev pub CleanedInRange : Type 0
CleanedInRange = (M : List ℕ) → in_range (floats (kept_of M)) ≡ true
