-- The list of what was dropped, in ASCII. Definitions only.
use Rattle.std.specs.Prelude.{ℕ, List, [], ◌∷◌, ◌++◌, length}
use Rattle.text.specs.Text.{decimal}
use Rattle.lines.specs.Lines.{blank, newline, pair_line}
use Rattle.sieve.specs.declared.Cause.{Cause}
use Rattle.sieve.specs.declared.Cause.TheVariants.{Range, Equal}
use Rattle.sieve.specs.Sieve.{Drop}

-- `KEPT `, ` DROPPED ` and `DROP `
abbrev pub kept_word : List ℕ
kept_word = 75 ∷ 69 ∷ 80 ∷ 84 ∷ 32 ∷ []

abbrev pub dropped_word : List ℕ
dropped_word = 32 ∷ 68 ∷ 82 ∷ 79 ∷ 80 ∷ 80 ∷ 69 ∷ 68 ∷ 32 ∷ []

abbrev pub drop_word : List ℕ
drop_word = 68 ∷ 82 ∷ 79 ∷ 80 ∷ 32 ∷ []

-- `RANGE` and `EQUAL`
abbrev pub cause_word : Cause → List ℕ
cause_word Range = 82 ∷ 65 ∷ 78 ∷ 71 ∷ 69 ∷ []
cause_word Equal = 69 ∷ 81 ∷ 85 ∷ 65 ∷ 76 ∷ []

-- how many marks were kept, and how many dropped
abbrev pub count_line : ℕ → ℕ → List ℕ
count_line k d = pair_line kept_word k dropped_word d

-- a dropped mark: its number and the cause
unfoldable pub drop_line : ℕ → Cause → List ℕ
drop_line i c = (((drop_word ++ decimal i) ++ blank) ++ cause_word c) ++ newline

unfoldable pub drop_lines : List Drop → List ℕ
drop_lines [] = []
drop_lines (d ∷ ds) = drop_line d.number d.cause ++ drop_lines ds

-- the whole list, of k marks kept
unfoldable pub report_of : ℕ → List Drop → List ℕ
report_of k ds = count_line k (length ds) ++ drop_lines ds
