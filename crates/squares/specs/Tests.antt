-- What an inner function tests: a word of its contract alone, of which no public promise speaks. Definitions only.
use Rattle.std.specs.Prelude.{Bool, ◌&&◌}
use Rattle.float.specs.Number.{finite}
use Rattle.squares.specs.declared.sums.Sums.{Sums}

unfoldable pub sums_finite : Sums → Bool
sums_finite s = (finite s.c00 && finite s.c01) && (finite s.c11 && (finite s.x0 && finite s.x1))
