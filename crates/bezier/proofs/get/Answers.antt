-- `bezier::get` meets its contract.
use mathlib.Core.Path.{◌≡◌, refl, sym, ap}
use Prim.Native.Nat.{ℕ, zero, suc}
use Rattle.plane.specs.declared.Point.{Point}
use Rattle.bezier.specs.Calls.{coordinate_of}
use Rattle.bezier.proofs.get.Goals as goal

second : (d : ℕ) (p : Point) → (d ≡ 0 → ⊥) → p.y ≡ coordinate_of d p
unfolding coordinate_of
second zero p h = absurd (h refl)
second (suc d) p h = refl

pub returns-then-dimension-eq0 : goal.returns-then-dimension-eq0
unfolding coordinate_of
returns-then-dimension-eq0 c = sym (ap (λ (d : ℕ). coordinate_of d c.args.p) c.if-dimension-eq0.true)

pub returns : goal.returns
returns c = second _ _ c.if-dimension-eq0.false
