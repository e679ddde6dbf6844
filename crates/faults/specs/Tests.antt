-- The tests of the list checker, each of one first mark (A), one curve (B, E) or one mark (C and D), and what they read of a list. In which order they come,
-- and which fault is the answer, is `Check` in `checker`. Definitions only.
use Rattle.std.specs.Prelude.{ℕ, zero, suc, ◌+◌, ◌-◌, ◌*◌, Bool, true, ◌&&◌, cond, List, drop, get_or, ltb, eqb, Float}
use Rattle.std.specs.Float.{nan, binary64}
use Rattle.std.specs.Float.Ieee.{to_bits, eq, le}
use Rattle.float.specs.Number.{f0, f1, finite}
use Rattle.root.specs.Root.{sqrt}
use Rattle.plane.specs.Range.{point_finite}
use Rattle.plane.specs.declared.Point.{Point}
use Rattle.plane.specs.declared.Curve.{Curve}
use Rattle.marks.specs.Marks.{mark_at}
use Rattle.form.specs.Form.{curve_numbers, record_numbers, width}
use Rattle.form.specs.declared.Form.{Form}
use Rattle.form.specs.declared.Form.TheVariants.{Eight, Nine}
use Rattle.stages.specs.Worst.{error_of, larger}
use Rattle.stages.specs.declared.worst.Worst.{Worst}

-- ---- what a list holds

abbrev pub first_at : List ℕ → ℕ → ℕ
first_at fs j = get_or fs j 0

abbrev pub worst_mark_at : List ℕ → ℕ → ℕ
worst_mark_at ws j = get_or ws j 0

-- a curve's eight numbers are four points, x and y in turn
unfoldable pub curve_of : List Float → Curve
curve_of xs = record { start = mark_at xs 0; cp1 = mark_at xs 1; cp2 = mark_at xs 2; end = mark_at xs 3 }

-- curve j, behind the numbers of those before it
unfoldable pub curve_at : Form → List Float → ℕ → Curve
curve_at form cs j = curve_of (drop (width form * j) cs)

-- the ninth number of record j: how far off the marks under its curve are
abbrev pub far_at : List Float → ℕ → Float
far_at cs j = get_or cs (record_numbers * j + curve_numbers) nan

-- of n marks and k curves, where curve j ends: at the next one's first mark, or at the last mark
unfoldable pub last_at : ℕ → ℕ → List ℕ → ℕ → ℕ
last_at n k fs j = cond (ltb (suc j) k) (first_at fs (suc j)) (n - 1)

-- the first mark that is not measured under curve j: a joint belongs to its later curve only
unfoldable pub stop_at : ℕ → ℕ → List ℕ → ℕ → ℕ
stop_at n k fs j = cond (ltb (suc j) k) (first_at fs (suc j)) n

-- ---- A

-- the first marks rise strictly from 0, and all are below n - 1
unfoldable pub rises : ℕ → List ℕ → ℕ → Bool
rises n fs zero = eqb (first_at fs 0) 0 && ltb (first_at fs 0) (n - 1)
rises n fs (suc j) = ltb (first_at fs j) (first_at fs (suc j)) && ltb (first_at fs (suc j)) (n - 1)

-- ---- B

-- equal bit for bit
unfoldable pub same : Point → Point → Bool
same p q = eqb (to_bits binary64 p.x) (to_bits binary64 q.x) && eqb (to_bits binary64 p.y) (to_bits binary64 q.y)

unfoldable pub curve_finite : Curve → Bool
curve_finite c = point_finite c.start && (point_finite c.cp1 && (point_finite c.cp2 && point_finite c.end))

-- a curve's numbers are finite, and it runs from the mark p to the mark q
unfoldable pub runs : Curve → Point → Point → Bool
runs c p q = curve_finite c && (same c.start p && same c.end q)

-- ---- C and D

-- the parameter t of mark i of n, under a curve that begins at mark `first`
unfoldable pub timed : ℕ → ℕ → ℕ → Float → Bool
timed n first i t = cond (eqb i first) (eq t f0) (cond (eqb (suc i) n) (eq t f1) (le f0 t && le t f1))

-- the distance of a mark, as max_error_for_curve works it out
unfoldable pub distance_at : Point → Curve → Float → Float
distance_at m c t = sqrt binary64 (error_of m c t).val

-- a distance that is finite and no more than the tolerance
abbrev pub within : Float → Float → Bool
within tol d = finite d && le d tol

unfoldable pub near : Float → Point → Curve → Float → Bool
near tol m c t = within tol (distance_at m c t)

-- ---- E

-- the square of mark i's distance
unfoldable pub square_at : List Float → Curve → List Float → ℕ → Float
square_at ms c ps i = (error_of (mark_at ms i) c (get_or ps i nan)).val

-- the worst so far, or one of m marks from mark `from` on whose square is larger: the largest, and the first mark that has it
unfoldable pub farther : Worst → (ℕ → Float) → ℕ → ℕ → Worst
farther w square from zero = w
farther w square from (suc i) = larger (farther w square from i) (square i) (from + i)

-- no distance yet, at a curve's first mark
abbrev pub unmeasured : ℕ → Worst
unmeasured first = record { err = f0; at = first }

-- the largest square under a curve c, over m marks from mark `first` on, and the first mark that has it; mark `first` if all are zero
abbrev pub farthest : List Float → Curve → List Float → ℕ → ℕ → Worst
farthest ms c ps first m = farther (unmeasured first) (λ i. square_at ms c ps (first + i)) first m

-- record j keeps the farthest mark under its curve: its distance, equal bit for bit, and its number; eight numbers keep none
unfoldable pub kept : Form → List Float → List ℕ → ℕ → Worst → Bool
kept Eight cs ws j w = true
kept Nine cs ws j w = eqb (to_bits binary64 (far_at cs j)) (to_bits binary64 (sqrt binary64 w.err)) && eqb (worst_mark_at ws j) w.at
