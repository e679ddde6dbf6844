-- Which marks of a shaky trace are kept, and why the others are dropped. Definitions only.
use Rattle.std.specs.Prelude.{ℕ, suc, Bool, false, cond, List, [], ◌∷◌, ◌++◌, take, drop, Option, Some, None}
use Rattle.std.specs.Float.{binary64}
use Rattle.std.specs.Float.Ieee.{of_bits}
use Rattle.plane.specs.Plane.{at, equal}
use Rattle.plane.specs.Range.{point_in_range}
use Rattle.plane.specs.declared.Point.{Point}
use Rattle.house.specs.Limits.{mark_numbers}
use Rattle.sieve.specs.declared.Cause.{Cause}
use Rattle.sieve.specs.declared.Cause.TheVariants.{Range, Equal}
use Rattle.sieve.specs.declared.Fate.{Fate}
use Rattle.sieve.specs.declared.Fate.TheVariants.{Kept, Dropped}

-- ---- one mark

-- a mark by the bits of its two numbers
abbrev pub mark : ℕ → ℕ → Point
mark x y = at (of_bits binary64 x) (of_bits binary64 y)

-- equal in both coordinates to the last mark kept, if there is one
unfoldable pub again : Option Point → Point → Bool
again None p = false
again (Some q) p = equal p q

-- dropped where a coordinate is not finite or exceeds 1,000,000 in magnitude, else where it is equal to the last mark kept
unfoldable pub fate_of : Option Point → Point → Fate
fate_of last p = cond (point_in_range p) (cond (again last p) (Dropped Equal) Kept) (Dropped Range)

-- the last mark kept, behind this one
unfoldable pub after : Option Point → Point → Fate → Option Point
after last p Kept = Some p
after last p (Dropped c) = last

-- ---- all marks, in order, x and y of each by their bits

-- what becomes of each
unfoldable pub fates : Option Point → List ℕ → List Fate
fates last [] = []
fates last (x ∷ []) = []
fates last (x ∷ (y ∷ M)) = fate_of last (mark x y) ∷ fates (after last (mark x y) (fate_of last (mark x y))) M

-- the marks kept
abbrev pub kept_by : Fate → List ℕ → List ℕ
kept_by Kept m = m
kept_by (Dropped c) m = []

unfoldable pub kept_in : List Fate → List ℕ → List ℕ
kept_in [] M = []
kept_in (f ∷ fs) M = kept_by f (take mark_numbers M) ++ kept_in fs (drop mark_numbers M)

-- the marks dropped, where the first one has the number i
pub record Drop : Type 0 where
  pub number : ℕ
  pub cause : Cause

abbrev pub drop_by : ℕ → Fate → List Drop
drop_by i Kept = []
drop_by i (Dropped c) = record { number = i; cause = c } ∷ []

unfoldable pub drops_from : ℕ → List Fate → List Drop
drops_from i [] = []
drops_from i (f ∷ fs) = drop_by i f ++ drops_from (suc i) fs

-- of a whole trace
abbrev pub fates_of : List ℕ → List Fate
fates_of M = fates None M

abbrev pub kept_of : List ℕ → List ℕ
kept_of M = kept_in (fates_of M) M

abbrev pub drops_of : List ℕ → List Drop
drops_of M = drops_from 0 (fates_of M)
