-- What becomes of a mark, case by case. Assumes nothing.
use mathlib.Core.Path.{◌≡◌, refl}
use mathlib.Core.Bool.{Bool, true, false}
use Prim.Native.Nat.{ℕ}
use native.Mathlib.Omega.{arith}
use Rattle.std.proofs.Common.{Option}
use Rattle.plane.specs.Range.{point_in_range}
use Rattle.plane.specs.declared.Point.{Point}
use Rattle.sieve.specs.declared.Cause.TheVariants.{Range, Equal}
use Rattle.sieve.specs.declared.Fate.TheVariants.{Kept, Dropped}
use Rattle.sieve.specs.Sieve.{again, fate_of}

module _ (last : Option Point) (p : Point) where
  pub fate_range : point_in_range p ≡ false → Dropped Range ≡ fate_of last p
  unfolding fate_of
  fate_range e = rw e refl

  pub fate_equal : point_in_range p ≡ true → again last p ≡ true → Dropped Equal ≡ fate_of last p
  unfolding fate_of
  fate_equal e a = rw (e, a) refl

  pub fate_kept : point_in_range p ≡ true → again last p ≡ false → Kept ≡ fate_of last p
  unfolding fate_of
  fate_kept e a = rw (e, a) refl

  -- what is kept is in range
  pub kept_near : fate_of last p ≡ Kept → point_in_range p ≡ true
  unfolding fate_of
  kept_near e = go (point_in_range p) refl
    where
      go : (b : Bool) → point_in_range p ≡ b → point_in_range p ≡ true
      go true h = h
      go false h = let d : Dropped Range ≡ Kept = rw h at e in let z : ◌≡◌ {A = ℕ} 0 1 = cc in absurd (omega arith)
