-- The marks that an outline runs over. Definitions only.
use Rattle.std.specs.Prelude.{ℕ, ◌%◌, ◌<◌, ◌≡◌, List, ◌++◌, length, take, Float}
use Rattle.marks.specs.Marks.{count}
use Rattle.ring.specs.declared.Outline.{Outline}
use Rattle.ring.specs.declared.Outline.TheVariants.{Open, Closed}

-- how many marks count again behind the last: of a closed outline mark 0 does
abbrev pub again : Outline → ℕ
again Open = 0
again Closed = 1

-- the marks given, and of a closed outline mark 0 once more behind them
abbrev pub whole : Outline → List Float → List Float
whole Open ms = ms
whole Closed ms = ms ++ take 2 ms

-- whole marks, and one at least
abbrev pub Even : List Float → Type 0
Even ms = (length ms % 2 ≡ 0) × (0 < count ms)
