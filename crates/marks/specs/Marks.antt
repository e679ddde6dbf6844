-- Marks in a list of numbers, x and y in turn. Definitions only.
use Rattle.std.specs.Prelude.{List, ℕ, ◌+◌, ◌*◌, ◌/◌, length, get_or, Float}
use Rattle.std.specs.Float.{nan}
use Rattle.plane.specs.Plane.{at}
use Rattle.plane.specs.declared.Point.{Point}

-- how many marks
abbrev pub count : List Float → ℕ
count ms = length ms / 2

-- mark k
unfoldable pub mark_at : List Float → ℕ → Point
mark_at ms k = at (get_or ms (2 * k) nan) (get_or ms (2 * k + 1) nan)
