-- C and D over a part of the marks under one curve: the loop. Assumes nothing.
use Prim.Native.Nat.{ℕ, ◌+◌, ◌≤◌, ◌<◌}
use native.Mathlib.Numerals.{add-one}
use native.Mathlib.Omega.{arith}
use mathlib.Core.Path.{◌≡◌, sym, ap, ◌∙◌}
use mathlib.Core.Bool.{Bool, true, false}
use mathlib.Core.List.{List}
use lib.ListN.{length, get_or}
use lib.Ieee.{Float, nan, binary64}
use Rattle.std.specs.Prelude.{Result, Err}
use Rattle.root.specs.Root.{sqrt}
use Rattle.plane.specs.declared.Curve.{Curve}
use Rattle.marks.specs.Marks.{mark_at}
use Rattle.stages.specs.Worst.{error_of, larger}
use Rattle.stages.specs.declared.worst.Worst.{Worst}
use Rattle.faults.specs.Tests.{timed, within, near, distance_at, square_at, farther}
use Rattle.checker.specs.declared.Fault.{Fault}
use Rattle.checker.specs.declared.Fault.TheVariants.{C, D}
use Rattle.checker.specs.Check.{Verdict, passed, fault, place, in_turn}
use Rattle.checker.specs.Inner.{under_checked, walked_by, walked}
use Rattle.checker.proofs.Turns.{turn_next, turn_stop}

module _ (tol : Float) (n j first from : ℕ) (c : Curve) (us ts : List Float) (w : Worst) where
  abbrev steps : ℕ → Verdict
  steps = under_checked tol n j first from c us ts

  abbrev whole : Result Worst Fault
  whole = walked (length ts) steps w (square_at us c ts) from

  -- the first i marks have no fault, and far is the farthest of them
  abbrev pub Faultless : Worst → ℕ → Type 0
  Faultless far i = (i ≤ length ts) × (in_turn i steps ≡ passed) × (far ≡ farther w (square_at us c ts) from i)

  module _ (far : Worst) (i : ℕ) (inv : Faultless far i) (l : i < length ts) (a : Bool) (time : a ≡ timed n first (from + i) (get_or ts i nan)) where
    stops : (x : Fault) → steps i ≡ fault x → Err x ≡ whole
    stops x h = sym (ap (λ (v : Verdict). walked_by v (farther w (square_at us c ts) from (length ts))) (turn_stop steps (length ts) i x l inv.1 h))

    pub fault_c : a ≡ false → Err (C (place j (from + i))) ≡ whole
    unfolding under_checked
    fault_c f = stops (C (place j (from + i))) (rw (← time, f))

    module _ (t : a ≡ true) (square : Float) (is : square ≡ (error_of (mark_at us i) c (get_or ts i nan)).val) (b : Bool) (dist : b ≡ within tol (sqrt binary64 square)) where
      near_is : b ≡ near tol (mark_at us i) c (get_or ts i nan)
      unfolding near distance_at
      near_is = dist ∙ rw is

      pub fault_d : b ≡ false → Err (D (place j (from + i))) ≡ whole
      unfolding under_checked
      fault_d f = stops (D (place j (from + i))) (rw (← time, t, ← near_is, f))

      pub faultless : b ≡ true → (next : Worst) → next ≡ larger far square (from + i) → Faultless next (i + 1)
      unfolding under_checked farther square_at
      faultless g next e =
          let v : in_turn (i + 1) steps ≡ passed = turn_next steps i inv.1 (rw (← time, t, ← near_is, g)) in
          (omega arith, v, e ∙ rw (add-one, ← inv.2, ← is))
