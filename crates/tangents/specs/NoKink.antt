-- Where two blocks meet. Definitions only.
use Rattle.std.specs.Prelude.{ℕ, ◌+◌, ◌≤◌, ◌<◌, ◌≡◌, List, Float, Some, None}
use Rattle.std.specs.Float.Ieee.{neg}
use Rattle.float.specs.Number.{f1}
use Rattle.float.specs.Answer.{ok, outcome}
use Rattle.plane.specs.Plane.{times}
use Rattle.plane.specs.declared.Point.{Point}
use Rattle.marks.specs.Tangent.{along}
use Rattle.tangents.specs.declared.Ways.{Ways}
use Rattle.joints.specs.declared.Joint.{Joint}
use Rattle.tangents.specs.declared.Cutting.{Cutting}
use Rattle.tangents.specs.declared.Cutting.TheVariants.{Ring}
use Rattle.joints.specs.Joints.{joint_at, seam_of, through}
use Rattle.tangents.specs.Ways.{over, ways_of}

-- A joint that has a direction has no kink: the tangent that the right block starts with is the left block's end tangent times -1.
abbrev pub Smooth : Joint → Ways → Ways → Type 0
Smooth j left right = (t : Point) → outcome (through j) ≡ ok (Some t) → outcome (times left.end (neg f1)) ≡ ok right.start

-- One that has none, as where the marks fold back, is left along the chords: each block goes by the one to its own neighbour.
abbrev pub Folded : Joint → Ways → Ways → Type 0
Folded j left right = outcome (through j) ≡ ok None → (outcome (along j.at j.before) ≡ ok left.end) × (outcome (along j.at j.after) ≡ ok right.start)

-- the left block takes `size` marks from `from` on and the first of the right block, after which marks are left; the right one goes up to `to`
abbrev pub NoKink : Type 0
NoKink =
    (k : Cutting) (ms : List Float) (n size from to : ℕ) (left right : Ways)
    → over k ≡ 1
    → 1 ≤ size
    → from + (size + over k) < n
    → outcome (ways_of k ms n from (from + (size + over k))) ≡ ok left
    → outcome (ways_of k ms n (from + size) to) ≡ ok right
    → Smooth (joint_at ms (from + size)) left right × Folded (joint_at ms (from + size)) left right

-- the same where a ring comes back: its last block goes up to the last of its n marks, its first one starts at mark 0
abbrev pub NoKinkAtSeam : Type 0
NoKinkAtSeam =
    (ms : List Float) (n from to : ℕ) (last first : Ways)
    → outcome (ways_of Ring ms n from n) ≡ ok last
    → outcome (ways_of Ring ms n 0 to) ≡ ok first
    → Smooth (seam_of ms n) last first × Folded (seam_of ms n) last first
