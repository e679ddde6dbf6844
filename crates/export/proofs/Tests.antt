-- Tests of all curves. Assumes nothing.
use mathlib.Core.Path.{◌≡◌, refl, sym, ◌∙◌}
use mathlib.Core.Bool.{Bool, true, false, ◌&&◌}
use Prim.Native.Nat.{ℕ, ◌+◌, ◌-◌}
use native.Mathlib.Numerals.{add-one}
use native.Mathlib.Omega.{arith}
use borrow.Author.Tests.{lt-ltb, lt-leb}
use lib.Dec.{ltb, leb}
use Rattle.float.proofs.Truth.{and-false}
use Rattle.plane.specs.declared.Curve.{Curve}
use Rattle.faults.specs.Tests.{same}
use Rattle.path.specs.Range.{every}
use Rattle.export.specs.Export.{joined, meets}
use Rattle.export.specs.Tests.{passes}
use Rattle.export.specs.declared.Test.TheVariants.{Joined}

-- one more
pub every_next : (i : ℕ) (p : ℕ → Bool) (a : Bool) → a ≡ every i p → a && p i ≡ every (i + 1) p
unfolding every
every_next i p a e = rw (add-one i, e)

-- what the loop answers
pub joined_by : (h : ℕ) (f : ℕ → Curve) {r b : Bool} → r ≡ every (h - 1) (passes Joined f) → r ≡ b → joined h f ≡ b
unfolding joined
joined_by h f e t = sym e ∙ t

-- ---- curves that meet, by the cases of the code
module _ (ring : Bool) (k h : ℕ) (f : ℕ → Curve) where
  pub no_curves : k ≡ 0 → false ≡ meets ring k h f
  unfolding meets
  no_curves e = rw e refl

  module _ (some : k ≡ 0 → ⊥) where
    pos : ltb 0 k ≡ true
    pos = lt-ltb 0 k (omega (arith, some))

    pub none_held : h ≡ 0 → true ≡ meets ring k h f
    unfolding meets joined every
    none_held e = rw (pos, e, lt-leb k 0 (omega (arith, some)), and-false ring) refl

    pub apart : joined h f ≡ false → false ≡ meets ring k h f
    unfolding meets
    apart e = rw (pos, e) refl

    pub around : joined h f ≡ true → ring && leb k h ≡ true → same (f (k - 1)).end (f 0).start ≡ meets ring k h f
    unfolding meets
    around e t = rw (pos, e, t) refl

    pub straight : joined h f ≡ true → ring && leb k h ≡ false → true ≡ meets ring k h f
    unfolding meets
    straight e t = rw (pos, e, t) refl
