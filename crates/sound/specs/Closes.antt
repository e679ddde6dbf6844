-- A list for a closed outline comes back to where it began. Definitions only.
use Rattle.std.specs.Prelude.{ℕ, ◌-◌, ◌≡◌, List, Float}
use Rattle.float.specs.Answer.{ok}
use Rattle.marks.specs.Marks.{mark_at}
use Rattle.form.specs.declared.Form.{Form}
use Rattle.ring.specs.declared.Outline.TheVariants.{Closed}
use Rattle.faults.specs.Tests.{curve_at}
use Rattle.checker.specs.Check.{passed, check_of}
use Rattle.sound.specs.Sound.{SamePoint}

-- the first of k curves begins on mark 0 and the last one ends there, bit for bit
abbrev pub Closes : Form → List Float → ℕ → List Float → Type 0
Closes form ms k cs = SamePoint (curve_at form cs 0).start (mark_at ms 0) × SamePoint (curve_at form cs (k - 1)).end (mark_at ms 0)

-- every list that passes for a ring does, in either form
abbrev pub RingCloses : Type 0
RingCloses = (form : Form) (ms : List Float) (tol : Float) (k : ℕ) (cs : List Float) (fs ws : List ℕ) (ps : List Float) → check_of Closed form ms tol k cs fs ws ps ≡ ok passed → Closes form ms k cs
