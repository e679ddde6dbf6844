-- How many marks an outline may have, and how many bytes a file that a program reads. Definitions only.
use Rattle.std.specs.Prelude.{ℕ, ◌^◌}

-- the most marks that a fit by blocks, the checker and a house file take
abbrev pub most_marks : ℕ
most_marks = 100000

-- How many marks can have a number, which is a u32. The routines inside a fit ask for no more marks than that, and not for `most_marks`: all they need is that
-- a mark's number fits, and no sum over marks then passes a usize.
abbrev pub most_numbered : ℕ
most_numbered = 2 ^ 32

-- the most bytes that the programs behind the bench's command read: the longest house file of 4,096 marks, with 4,095 curves, their worst marks, and the parameters
abbrev pub most_read : ℕ
most_read = 434120
