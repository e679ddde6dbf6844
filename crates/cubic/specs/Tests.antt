-- What the inner functions test and return: words of their contracts alone, of which no public promise speaks. Definitions only.
use Rattle.std.specs.Prelude.{Bool, ◌&&◌}
use Rattle.float.specs.Number.{finite}
use Rattle.plane.specs.Range.{point_finite}
use Rattle.cubic.specs.declared.eval.Coefficients.{Coefficients}
use Rattle.cubic.specs.declared.split.Halves.{Halves}

-- the ends of a run, each finite only where every operation before it was
unfoldable pub coefficients_finite : Coefficients → Bool
coefficients_finite k = finite k.a && (finite k.b && finite k.c)

unfoldable pub halves_finite : Halves → Bool
halves_finite h = point_finite h.left.end
