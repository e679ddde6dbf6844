-- Where two blocks meet: with which tangent the left one ends and the right one starts. Definitions only.
use Rattle.std.specs.Prelude.{ℕ, ◌+◌, ◌-◌, ◌<◌, List, Float, Option, Some, None}
use Rattle.std.specs.Float.Ieee.{neg}
use Rattle.float.specs.Number.{f1}
use Rattle.float.specs.Calc.{Calc, give, ◌>>=◌}
use Rattle.plane.specs.Plane.{times}
use Rattle.plane.specs.declared.Point.{Point}
use Rattle.marks.specs.Marks.{count, mark_at}
use Rattle.marks.specs.Tangent.{direction_between, along}
use Rattle.ring.specs.Ring.{again, Even}
use Rattle.ring.specs.declared.Outline.{Outline}
use Rattle.joints.specs.declared.Joint.{Joint}

-- a mark of an outline with one before it and one after it
abbrev pub Inner : Outline → List Float → ℕ → Type 0
Inner o ms k = Even ms × ((0 < k) × (k + 1 < again o + count ms))

-- a mark with the one before it, which lies in the left block, and the one after it, in the right block
abbrev pub joint_at : List Float → ℕ → Joint
joint_at ms k = record { before = mark_at ms (k - 1); at = mark_at ms k; after = mark_at ms (k + 1) }

-- Where a ring comes back to its first mark, its last block meets its first: these are the last, first and second mark.
-- Of n marks the last is the first again, and the one before it the last that was given.
abbrev pub seam_of : List Float → ℕ → Joint
seam_of ms n = record { before = mark_at ms (n - 2); at = mark_at ms 0; after = mark_at ms 1 }

-- the direction there, if there is one: tangent_between's
abbrev pub through : Joint → Calc (Option Point)
through j = direction_between j.before j.at j.after

-- a tangent times -1
abbrev pub opposite : Point → Calc Point
opposite t = times t (neg f1)

-- The two blocks share that direction: the left one ends with it, and the right one starts with it times -1. Where there is none, each takes the direction of the chord
-- to the neighbour inside it, which is not turned, and zero only if that has none either.
unfoldable pub end_by : Joint → Option Point → Calc Point
end_by j (Some t) = give t
end_by j None = along j.at j.before

unfoldable pub start_by : Joint → Option Point → Calc Point
start_by j (Some t) = opposite t
start_by j None = along j.at j.after

unfoldable pub left_end : Joint → Calc Point
left_end j = do end_by j (← through j)

unfoldable pub right_start : Joint → Calc Point
right_start j = do start_by j (← through j)
