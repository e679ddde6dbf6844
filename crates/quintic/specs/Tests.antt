-- What tells that each operation of a run was finite: words of inner contracts alone. Definitions only.
use Rattle.std.specs.Prelude.{Bool, ◌&&◌}
use Rattle.float.specs.Number.{finite}
use Rattle.plane.specs.Range.{point_finite}
use Rattle.quintic.specs.declared.points.Section.{Section}
use Rattle.quintic.specs.declared.points.Halves.{Halves}
use Rattle.quintic.specs.declared.numbers.Five.{Five}

unfoldable pub five_finite : Five → Bool
five_finite h = (finite h.y1 && (finite h.y2 && finite h.y3)) && (finite h.y4 && finite h.y5)

unfoldable pub heights_finite : Section → Bool
heights_finite s = (finite s.w1.y && (finite s.w2.y && finite s.w3.y)) && (finite s.w4.y && (finite s.w5.y && finite s.w6.y))

unfoldable pub halves_finite : Halves → Bool
halves_finite h = point_finite h.left.w6
