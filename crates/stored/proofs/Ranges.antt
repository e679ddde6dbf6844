-- What cleaning keeps is in range. Assumes nothing.
use Prim.Native.Nat.{ℕ}
use mathlib.Core.Path.{◌≡◌, refl}
use mathlib.Core.Bool.{true, ◌&&◌}
use mathlib.Core.List.{List, [], ◌∷◌}
use lib.Ieee.{binary64, of_bits}
use Rattle.std.proofs.Common.{Option, Some, None}
use Rattle.plane.specs.declared.Point.{Point}
use Rattle.plane.specs.Range.{coordinate, point_in_range}
use Rattle.gate.specs.Gate.{in_range}
use Rattle.house.proofs.Numbers.{split}
use Rattle.desk.specs.Desk.{floats}
use Rattle.sieve.specs.declared.Fate.{Fate}
use Rattle.sieve.specs.declared.Fate.TheVariants.{Kept, Dropped}
use Rattle.sieve.specs.Sieve.{mark, fate_of, after, fates, kept_in}
use Rattle.sieve.proofs.Fates.{kept_near}
use Rattle.stored.specs.Stored.{CleanedInRange}

both : (x y : ℕ) → point_in_range (mark x y) ≡ true → coordinate (of_bits binary64 x) && coordinate (of_bits binary64 y) ≡ true
unfolding point_in_range
both x y h = h

from : (last : Option Point) (M : List ℕ) → in_range (floats (kept_in (fates last M) M)) ≡ true
unfolding fates kept_in in_range after
from last [] = refl
from last (x ∷ []) = refl
from last (x ∷ (y ∷ M)) = go (fate_of last (mark x y)) refl (from last M) (from (Some (mark x y)) M)
  where
    go : (f : Fate) → fate_of last (mark x y) ≡ f → in_range (floats (kept_in (fates last M) M)) ≡ true → in_range (floats (kept_in (fates (Some (mark x y)) M) M)) ≡ true → in_range (floats (kept_in (fates last (x ∷ (y ∷ M))) (x ∷ (y ∷ M)))) ≡ true
    go Kept e a b = let n = split (coordinate (of_bits binary64 x)) (coordinate (of_bits binary64 y)) (both x y (kept_near last (mark x y) e)) in rw (e, n.0, n.1) b
    go (Dropped c) e a b = rw e a

pub cleaned_in_range : CleanedInRange
cleaned_in_range M = from None M
