-- `roots::find::halve` meets its contract.
use mathlib.Core.Path.{sym, ◌∙◌}
use Rattle.plane.specs.Range.{point_finite}
use Rattle.quintic.specs.Tests.{halves_finite}
use Rattle.roots.proofs.Looks.{deep, halved_on, halved_off}
use Rattle.roots.proofs.find.halve.Goals as goal

pub returns-then-depth-ge-DEEPEST : goal.returns-then-depth-ge-DEEPEST
returns-then-depth-ge-DEEPEST c = deep _ _ c.if-depth-ge-DEEPEST.true

pub returns-then-not-two_finite : goal.returns-then-not-two_finite
unfolding halves_finite point_finite
returns-then-not-two_finite c =
    halved_off _ _ c.if-depth-ge-DEEPEST.false _ c.subdivide6-halves.ensures (sym c.two_finite.ensures ∙ c.if-not-two_finite.true)

pub returns : goal.returns
unfolding halves_finite point_finite
returns c =
    halved_on _ _ c.if-depth-ge-DEEPEST.false _ c.subdivide6-halves.ensures (sym c.two_finite.ensures ∙ c.if-not-two_finite.false)
