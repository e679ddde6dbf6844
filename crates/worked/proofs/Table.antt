-- The definitions compute to the worked cases. Assumes nothing.
use mathlib.Core.Path.{refl}
use lib.Ieee.{of_bits, add, sub, mul, div, lt, le, eq, neg, round, size, fits}
use Rattle.float.specs.Number.{finite, abs}
use Rattle.float.specs.Answer.{outcome}
use Rattle.root.specs.Root.{sqrt, root_in, root, twice_root}
use Rattle.plane.specs.Plane.{plus, minus, times, dot_of, magnitude_of, direction_by, direction_of, or_zero, unit_of}
use Rattle.plane.specs.Range.{coordinate}
use Rattle.marks.specs.Block.{size_from, block_size}
use Rattle.marks.specs.Marks.{mark_at}
use Rattle.marks.specs.Line.{line_of}
use Rattle.marks.specs.Tangent.{start_tangent, end_tangent, between, direction_between, along}
use Rattle.cubic.specs.Basis.{point_at, basis, casteljau2}
use Rattle.cubic.specs.Subdivide.{subdivide4_of}
use Rattle.part.specs.Part.{part_of}
use Rattle.cut.specs.Run.{run, run_of}
use Rattle.gate.specs.Gate.{in_range, tolerable, room_for, gate_for}
use Rattle.joints.specs.Joints.{end_by, start_by, left_end, right_start}
use Rattle.tangents.specs.Ways.{over, start_at, end_at, ways_of}
use Rattle.blocks.specs.Blocks.{blocks, blocks_from, blocks_of}
use Rattle.fit.specs.Fit.{fit_of}
use Rattle.worked.specs.Table.{Table}

pub table : Table
unfolding of_bits add sub mul div lt le eq neg round size fits finite abs outcome sqrt twice_root root root_in plus minus times dot_of magnitude_of direction_by direction_of or_zero unit_of coordinate block_size size_from mark_at line_of start_tangent end_tangent between direction_between along point_at basis casteljau2 subdivide4_of part_of run run_of in_range tolerable room_for gate_for end_by start_by left_end right_start over start_at end_at ways_of blocks blocks_from blocks_of fit_of
table = record { block199 = refl; block200 = refl; block201 = refl; block249 = refl; block250 = refl; block400 = refl; middle = refl; left = refl; fine = refl; line = refl; root0 = refl; root_quarter = refl; root4 = refl; root_least = refl; unit = refl; fold_end = refl; fold_start = refl; near_end = refl; near_start = refl }
