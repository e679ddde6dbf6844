-- The tangents at a cut and at the ends of a block. Definitions only.
use Rattle.std.specs.Prelude.{ℕ, ◌+◌, ◌-◌, ◌*◌, Bool, ◌&&◌, cond, List, take, drop, leb, ltb, Float}
use Rattle.float.specs.Calc.{Calc, give, ◌>>=◌}
use Rattle.plane.specs.declared.Point.{Point}
use Rattle.marks.specs.Marks.{mark_at}
use Rattle.marks.specs.Tangent.{start_tangent, end_tangent, tangent_between}
use Rattle.ring.specs.Ring.{whole}
use Rattle.ring.specs.declared.Outline.{Outline}
use Rattle.ring.specs.declared.Outline.TheVariants.{Open, Closed}
use Rattle.joints.specs.Joints.{opposite, joint_at, seam_of, left_end, right_start}
use Rattle.tangents.specs.declared.Ways.{Ways}
use Rattle.tangents.specs.declared.Cutting.{Cutting}
use Rattle.tangents.specs.declared.Cutting.TheVariants.{Source, Loop, Joined, Ring}

-- the tangent at mark k: tangent_between of the mark before it, itself and the mark after it
unfoldable pub tangent_at : List Float → ℕ → Calc Point
tangent_at ms k = tangent_between (mark_at ms (k - 1)) (mark_at ms k) (mark_at ms (k + 1))

-- the shared tangent at a cut at mark k: tangent_between's at the left's end, and that times -1 at the right's start
unfoldable pub ways_at : List Float → ℕ → Calc Ways
unfolding tangent_at
ways_at ms k = do
  t ← tangent_at ms k
  u ← opposite t
  give (record { end = t; start = u })

-- how many marks of the next block a block takes in: joined blocks and a ring's share the mark where they meet, the source's do not meet
unfoldable pub over : Cutting → ℕ
over Source = 0
over Loop = 0
over Joined = 1
over Ring = 1

-- a ring is cut over a closed outline, and the marks that are cut into blocks are all that it runs over
abbrev pub outline_of : Cutting → Outline
outline_of Source = Open
outline_of Loop = Open
outline_of Joined = Open
outline_of Ring = Closed

abbrev pub marks_of : Cutting → List Float → List Float
marks_of k ms = whole (outline_of k) ms

-- The tangents at the ends of the block of marks `from` up to `to` (not in it) of n, where it meets no other. At the start: its first two marks,
-- and for a loop the two before it, or the outline's last two. (A ring's blocks meet everywhere, so that neither number is asked of it.)
unfoldable pub start_at : Cutting → ℕ → ℕ → ℕ
start_at Source n from = from
start_at Loop n from = cond (leb from 1) (n - 2) (from - 2)
start_at Joined n from = from
start_at Ring n from = from

-- At the end: its last two marks; fit_curve looks one mark past it if there is one more after that, and for a loop it is the two
-- after it, or the outline's first two.
unfoldable pub end_at : Cutting → ℕ → ℕ → ℕ
end_at Source n to = cond (ltb (to + 1) n) (to + 1) to
end_at Loop n to = cond (ltb (to + 1) n) (to + 2) 2
end_at Joined n to = to
end_at Ring n to = to

-- Blocks that share a mark meet there: a block meets the one before it if it starts after mark 0, and the one after it if marks are left, `to` below n.
unfoldable pub meets : Cutting → ℕ → ℕ → Bool
unfolding over
meets k a b = ltb 0 (over k) && ltb a b

-- the tangents at the outline's own start and end
abbrev pub outer_start : Outline → Cutting → List Float → ℕ → ℕ → Calc Point
outer_start Open k ms n from = start_tangent (drop (2 * start_at k n from) ms)
outer_start Closed k ms n from = right_start (seam_of ms n)

abbrev pub outer_end : Outline → Cutting → List Float → ℕ → ℕ → Calc Point
outer_end Open k ms n to = end_tangent (take (2 * end_at k n to) ms)
outer_end Closed k ms n to = left_end (seam_of ms n)

-- the tangents at a block's two ends: of the joint where it meets another, and else the outline's own
unfoldable pub start_of : Cutting → List Float → ℕ → ℕ → Calc Point
unfolding meets start_at
start_of k ms n from = cond (meets k 0 from) (right_start (joint_at ms from)) (outer_start (outline_of k) k ms n from)

unfoldable pub end_of : Cutting → List Float → ℕ → ℕ → Calc Point
unfolding meets end_at
end_of k ms n to = cond (meets k to n) (left_end (joint_at ms (to - 1))) (outer_end (outline_of k) k ms n to)

unfoldable pub ways_of : Cutting → List Float → ℕ → ℕ → ℕ → Calc Ways
unfolding start_of end_of
ways_of k ms n from to = do
  s ← start_of k ms n from
  e ← end_of k ms n to
  give (record { end = e; start = s })
