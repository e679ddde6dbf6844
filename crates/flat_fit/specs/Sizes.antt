-- The size of a block, as the entry gives it on: a word of its inner contracts. Definitions only.
use Rattle.std.specs.Prelude.{ℕ, ◌+◌, ◌≡◌}
use Rattle.marks.specs.Block.{block_size}
use Rattle.parts.specs.declared.Heading.{Heading}
use Rattle.parts.specs.declared.Heading.TheVariants.{Given, By}

-- s is the size of a block of n marks: all of them, or the size that suits so many
abbrev pub SizeIn : Heading → ℕ → ℕ → Type 0
SizeIn (Given w) n s = s + 1 ≡ n
SizeIn (By k) n s = s ≡ block_size n
