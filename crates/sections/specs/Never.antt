-- That the search for the nearest point's roots never takes a 2,049th section. Definitions only.
use Rattle.std.specs.Prelude.{◌≡◌, true, [], ◌∷◌, ℕ, ◌≤◌}
use Rattle.plane.specs.declared.Point.{Point}
use Rattle.plane.specs.declared.Curve.{Curve}
use Rattle.quintic.specs.Heights.{distance_form}
use Rattle.quintic.specs.Tests.{heights_finite}
use Rattle.roots.specs.Find.{wait, find, find_roots}

-- whatever number the search is to refuse by where it meets its bound on sections, and wherever from 2,048 on that bound lies, it comes to the same
abbrev pub Never2049 : Type 0
Never2049 =
    (c : Curve) (p : Point) → heights_finite (distance_form c p).val ≡ true
    → (full m : ℕ) → 2048 ≤ m → find full m (wait (distance_form c p).val 0 ∷ []) ≡ find_roots (distance_form c p).val
