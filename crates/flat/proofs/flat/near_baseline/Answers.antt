-- `flat::flat::near_baseline` meets its contract.
use mathlib.Core.Path.{◌∙◌}
use Rattle.flat.proofs.Baseline.{near_is}
use Rattle.flat.proofs.flat.near_baseline.Goals as goal

pub returns : goal.returns
returns c =
    c.test_of.ensures
    ∙ simp (c.three_finite-2.ensures, c.three_finite.ensures, c.finite.ensures, c.max-m6.ensures, c.max-4.ensures, c.max-3.ensures, c.max-m3.ensures, c.max-2.ensures, c.max.ensures, c.distance_to-d6.ensures, c.distance_to-d5.ensures, c.distance_to-d4.ensures, c.distance_to-d3.ensures, c.distance_to-d2.ensures, c.distance_to-d1.ensures, c.factor-f.ensures, c.coefficients-l.ensures) (near_is _)
