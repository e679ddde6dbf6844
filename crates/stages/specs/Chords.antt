-- chords_for_points of fit.rs, for n marks. Definitions only.
use Rattle.std.specs.Prelude.{List, ℕ, zero, suc, ◌-◌, length, get_or, Float}
use Rattle.std.specs.Float.{nan}
use Rattle.float.specs.Number.{f0}
use Rattle.float.specs.Calc.{Calc, give, ◌>>=◌, ◌+!◌, ◌/!◌}
use Rattle.float.specs.Folds.{each}
use Rattle.plane.specs.Plane.{minus, dot_of, distance_of}
use Rattle.marks.specs.Marks.{mark_at}

-- the length along the marks up to mark k: a sum of distances, from 0
unfoldable pub along : List Float → ℕ → Calc Float
along ms zero = give f0
along ms (suc k) = do
  total ← along ms k
  total +! (← distance_of (mark_at ms k) (mark_at ms (suc k)))

-- that of each mark, by the whole
unfoldable pub chords_of : List Float → ℕ → Calc (List Float)
unfolding along
chords_of ms n = do
  total ← along ms (n - 1)
  each n (λ k. (along ms k).val /! total)

-- ---- words of the inner contracts

unfoldable pub lengths : List Float → ℕ → List Float
unfolding along
lengths ms n = (each n (λ k. give (along ms k).val)).val

unfoldable pub part_at : List Float → Float → ℕ → Calc Float
part_at ts total k = get_or ts k nan /! total

unfoldable pub parts : List Float → Float → Calc (List Float)
parts ts total = each (length ts) (part_at ts total)

unfoldable pub square_at : List Float → ℕ → Calc Float
square_at ms k = do
  d ← minus (mark_at ms k) (mark_at ms (k - 1))
  dot_of d d
