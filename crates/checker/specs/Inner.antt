-- Words of the inner contracts. Definitions only.
use Rattle.std.specs.Prelude.{ℕ, Result, Ok, Err, ◌+◌, ◌*◌, ◌%◌, ◌≤◌, ◌≡◌, List, length, get_or, Float}
use Rattle.std.specs.Float.{nan}
use Rattle.plane.specs.declared.Curve.{Curve}
use Rattle.marks.specs.Marks.{count, mark_at}
use Rattle.form.specs.Form.{width, worsts_for}
use Rattle.form.specs.declared.Form.{Form}
use Rattle.ring.specs.Ring.{Even}
use Rattle.stages.specs.declared.worst.Worst.{Worst}
use Rattle.faults.specs.Tests.{timed, near, farther}
use Rattle.checker.specs.declared.Fault.{Fault}
use Rattle.checker.specs.declared.Fault.TheVariants.{C, D}
use Rattle.checker.specs.Check.{Verdict, passed, fault, place, must, ◌then◌, in_turn, listed}

-- what tests of the code found, as a verdict
abbrev pub verdict : {A : Type 0} → Result A Fault → Verdict
verdict (Ok _) = passed
verdict (Err f) = fault f

-- C and D at mark i of the part us that lies under a curve c, number j, whose first mark is mark `first` of n; the part begins at mark `from`, and ts are its parameters
unfoldable pub under_checked : Float → ℕ → ℕ → ℕ → ℕ → Curve → List Float → List Float → ℕ → Verdict
under_checked tol n j first from c us ts i =
    must (C (place j (from + i))) (timed n first (from + i) (get_or ts i nan)) then must (D (place j (from + i))) (near tol (mark_at us i) c (get_or ts i nan))

-- the farthest mark of a walk, unless one has a fault
abbrev pub walked_by : Verdict → Worst → Result Worst Fault
walked_by passed w = Ok w
walked_by (fault f) w = Err f

-- a walk over m marks from mark `from` on, with their tests and their squares, after the worst so far
abbrev pub walked : ℕ → (ℕ → Verdict) → Worst → (ℕ → Float) → ℕ → Result Worst Fault
walked m steps w squares from = walked_by (in_turn m steps) (farther w squares from m)

-- the marks under a curve, from mark `first` up to mark `stop` of n: those given, and behind them mark 0 at most
pub record Under (ms ps : List Float) (n first stop : ℕ) : Type 0 where
  pub even : Even ms
  pub order : first ≤ stop
  pub given : first ≤ count ms
  pub behind : stop ≤ count ms + 1
  pub within : stop ≤ n
  pub params : stop ≤ length ps

-- a list that the gate lets through and that has no fault A
pub record Listed (form : Form) (ms : List Float) (k : ℕ) (cs : List Float) (fs ws : List ℕ) (ps : List Float) : Type 0 where
  pub even : length ms % 2 ≡ 0
  pub curves : width form * k ≤ length cs
  pub firsts : k ≤ length fs
  pub worsts : worsts_for form k ≤ length ws
  pub params : count ms ≤ length ps
  pub rising : listed (count ms) k fs ≡ passed
