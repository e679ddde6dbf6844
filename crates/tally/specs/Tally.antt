-- How many blocks a joined fit has. Definitions only.
use Rattle.std.specs.Prelude.{ℕ, ◌+◌, ◌-◌, ◌*◌, ◌/◌, ◌<◌, cond, ltb}
use Rattle.marks.specs.Block.{block_size}

-- none below two marks
unfoldable pub joined_blocks : ℕ → ℕ
joined_blocks n = cond (ltb n 2) 0 ((n - 2) / block_size n + 1)

-- that is the document's number: there is a block k just where k * size < n - 1
abbrev pub Counts : Type 0
Counts = (n k : ℕ) → (k < joined_blocks n → k * block_size n < n - 1) × (k * block_size n < n - 1 → k < joined_blocks n)
