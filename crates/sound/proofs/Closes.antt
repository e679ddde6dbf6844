-- A sound list for a closed outline comes back to mark 0. Assumes nothing.
use Prim.Native.Nat.{ℕ, ◌-◌}
use native.Mathlib.Omega.{arith}
use mathlib.Core.Path.{◌≡◌, ap, ◌∙◌}
use mathlib.Core.List.{List}
use lib.ListN.{length}
use lib.Ieee.{Float}
use Rattle.limits.specs.Limits.{most_marks}
use Rattle.marks.specs.Marks.{count, mark_at}
use Rattle.form.specs.declared.Form.{Form}
use Rattle.ring.specs.Ring.{whole, Even}
use Rattle.ring.specs.declared.Outline.TheVariants.{Closed}
use Rattle.ring.proofs.Whole.{whole-count, given, comes_back}
use Rattle.gate.proofs.Tests.{passed_for, passed-even}
use Rattle.faults.specs.Tests.{first_at, last_at}
use Rattle.faults.proofs.Firsts.{ending}
use Rattle.checker.specs.Check.{passed}
use Rattle.sound.specs.Sound.{Sound}
use Rattle.sound.specs.Closes.{Closes, RingCloses}
use Rattle.sound.proofs.Sound.{judged, passes-sound}

pub sound_closes : (form : Form) (ms : List Float) (tol : Float) (k : ℕ) (cs : List Float) (fs ws : List ℕ) (ps : List Float) → Even ms → Sound form (whole Closed ms) tol k cs fs ws ps → Closes form ms k cs
sound_closes form ms tol k cs fs ws ps even s =
    let some = s.some in
    let all = whole-count Closed ms even in
    let e = ending (count (whole Closed ms)) k fs (k - 1) (omega arith) in
    let first : mark_at (whole Closed ms) (first_at fs 0) ≡ mark_at ms 0 = ap (mark_at (whole Closed ms)) s.from_first ∙ given Closed ms 0 (omega arith) in
    let last : mark_at (whole Closed ms) (last_at (count (whole Closed ms)) k fs (k - 1)) ≡ mark_at ms 0 = comes_back ms _ even (omega arith) in
    (rw first at (s.begins 0 some), rw last at (s.ends (k - 1) (omega arith)))

pub ring_closes : RingCloses
ring_closes form ms tol k cs fs ws ps h =
    let g = passed_for most_marks Closed form k ms tol (length cs) (length fs) (length ws) (length ps) (judged Closed form ms tol k cs fs ws ps passed h).0 in
    sound_closes form ms tol k cs fs ws ps (passed-even g) (passes-sound Closed form ms tol k cs fs ws ps h)
