-- The tests of export that go over all curves, by name, so that one loop makes them. Definitions only.
use Rattle.std.specs.Prelude.{ℕ, suc, Bool}
use Rattle.plane.specs.declared.Curve.{Curve}
use Rattle.faults.specs.Tests.{curve_finite, same}
use Rattle.path.specs.Range.{curve_within}
use Rattle.export.specs.declared.Test.{Test}
use Rattle.export.specs.declared.Test.TheVariants.{Finite, Within, Joined}

-- the test of curve i
abbrev pub passes : Test → (ℕ → Curve) → ℕ → Bool
passes Finite f i = curve_finite (f i)
passes Within f i = curve_within (f i)
passes Joined f i = same (f i).end (f (suc i)).start

-- how many curves behind curve i it looks at
abbrev pub ahead : Test → ℕ
ahead Finite = 0
ahead Within = 0
ahead Joined = 1
