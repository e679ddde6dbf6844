-- A sound list, in plain words and with no order of tests. Definitions only.
use Rattle.std.specs.Prelude.{ℕ, ◌-◌, ◌≤◌, ◌<◌, ◌≡◌, true, List, get_or, Float}
use Rattle.std.specs.Float.{nan, binary64}
use Rattle.std.specs.Float.Ieee.{to_bits, eq, lt, le}
use Rattle.float.specs.Number.{f0, f1, finite}
use Rattle.plane.specs.declared.Point.{Point}
use Rattle.marks.specs.Marks.{count, mark_at}
use Rattle.form.specs.declared.Form.{Form}
use Rattle.form.specs.declared.Form.TheVariants.{Nine}
use Rattle.faults.specs.Tests.{first_at, worst_mark_at, curve_at, far_at, last_at, stop_at, curve_finite, distance_at, square_at}

-- the very same point: equal bits
abbrev pub SamePoint : Point → Point → Type 0
SamePoint p q = (to_bits binary64 p.x ≡ to_bits binary64 q.x) × (to_bits binary64 p.y ≡ to_bits binary64 q.y)

-- of the marks from `first` up to `stop`, mark w has the largest square, and is the first that has it
pub record Farthest (square : ℕ → Float) (first stop w : ℕ) : Type 0 where
  pub from : first ≤ w
  pub upto : w < stop
  pub most : (i : ℕ) → first ≤ i → i < stop → le (square i) (square w) ≡ true
  pub before : (i : ℕ) → first ≤ i → i < w → lt (square i) (square w) ≡ true

-- k curves for these marks
pub record Sound (form : Form) (ms : List Float) (tol : Float) (k : ℕ) (cs : List Float) (fs ws : List ℕ) (ps : List Float) : Type 0 where
  -- they run from the first mark to the last, each over two marks or more
  pub some : 0 < k
  pub from_first : first_at fs 0 ≡ 0
  pub two_or_more : (j : ℕ) → j < k → first_at fs j < last_at (count ms) k fs j
  -- each begins on the very mark where the one before ended, and ends on the next one's or on the last mark
  pub begins : (j : ℕ) → j < k → SamePoint (curve_at form cs j).start (mark_at ms (first_at fs j))
  pub ends : (j : ℕ) → j < k → SamePoint (curve_at form cs j).end (mark_at ms (last_at (count ms) k fs j))
  -- all its numbers are finite
  pub numbers : (j : ℕ) → j < k → curve_finite (curve_at form cs j) ≡ true
  -- parameters are in 0..1, with 0 where a curve begins and 1 at the last mark
  pub within_unit : (i : ℕ) → i < count ms → (le f0 (get_or ps i nan) ≡ true) × (le (get_or ps i nan) f1 ≡ true)
  pub zero_at_first : (j : ℕ) → j < k → eq (get_or ps (first_at fs j) nan) f0 ≡ true
  pub one_at_last : eq (get_or ps (count ms - 1) nan) f1 ≡ true
  -- every mark, measured once, is within the tolerance
  pub near-enough : (j : ℕ) → j < k → (i : ℕ) → first_at fs j ≤ i → i < stop_at (count ms) k fs j
      → (finite (distance_at (mark_at ms i) (curve_at form cs j) (get_or ps i nan)) ≡ true) × (le (distance_at (mark_at ms i) (curve_at form cs j) (get_or ps i nan)) tol ≡ true)
  -- in records of nine numbers, each curve's worst mark is the first of the farthest under it, and the ninth number its distance, bit for bit
  pub worst_is : form ≡ Nine → (j : ℕ) → j < k → Farthest (square_at ms (curve_at form cs j) ps) (first_at fs j) (stop_at (count ms) k fs j) (worst_mark_at ws j)
  pub distance_kept : form ≡ Nine → (j : ℕ) → j < k
      → to_bits binary64 (far_at cs j) ≡ to_bits binary64 (distance_at (mark_at ms (worst_mark_at ws j)) (curve_at form cs j) (get_or ps (worst_mark_at ws j) nan))
