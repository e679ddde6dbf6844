-- Curve by curve, and the whole list. Assumes nothing.
use Prim.Native.Nat.{ℕ, ◌+◌, ◌≤◌, ◌<◌}
use native.Mathlib.Omega.{arith}
use mathlib.Core.Path.{◌≡◌, sym, ap, ◌∙◌}
use mathlib.Core.List.{List}
use lib.ListN.{length}
use lib.Ieee.{Float}
use borrow.Author.Tests.{eq-eqb, ne_eqb}
use Rattle.float.specs.Answer.{ok, refused}
use Rattle.float.specs.Refusal.{number}
use Rattle.float.specs.declared.refusal.Refusal.{Refusal}
use Rattle.limits.specs.Limits.{most_marks}
use Rattle.marks.specs.Marks.{count}
use Rattle.form.specs.declared.Form.{Form}
use Rattle.ring.specs.Ring.{again, whole, Even}
use Rattle.ring.specs.declared.Outline.{Outline}
use Rattle.ring.proofs.Whole.{whole-count, whole-even}
use Rattle.gate.specs.Gate.{gate_for}
use Rattle.gate.proofs.Tests.{never_zero, PassedFor, passed_for, passed-even}
use Rattle.checker.specs.declared.Fault.{Fault}
use Rattle.checker.specs.Check.{Verdict, passed, fault, in_turn, listed, curve_checked, list_checked, check_of}
use Rattle.checker.specs.Inner.{Listed}
use Rattle.checker.proofs.Turns.{turn_next, turn_stop}

module _ (form : Form) (ms : List Float) (tol : Float) (k : ℕ) (cs : List Float) (fs ws : List ℕ) (ps : List Float) where
  abbrev steps : ℕ → Verdict
  steps = curve_checked form ms tol k cs fs ws ps

  -- the first j curves have no fault
  abbrev pub Faultless : ℕ → Type 0
  Faultless j = (j ≤ k) × (in_turn j steps ≡ passed)

  module _ (j : ℕ) (inv : Faultless j) where
    module _ (l : j < k) where
      pub faultless : passed ≡ steps j → Faultless (j + 1)
      faultless p = (omega arith, turn_next steps j inv.1 (sym p))

      pub halt : (f : Fault) → fault f ≡ steps j → fault f ≡ in_turn k steps
      halt f e = sym (turn_stop steps k j f l inv.1 (sym e))

    pub end : k ≤ j → passed ≡ in_turn k steps
    end h =
        let n : j ≡ k = let l = inv.0 in omega arith in
        sym (rw n at inv.1)

-- ---- the whole list, behind a gate
module _ (o : Outline) (form : Form) (ms : List Float) (tol : Float) (k : ℕ) (cs : List Float) (fs ws : List ℕ) (ps : List Float) where
  abbrev pub gate : ℕ
  gate = gate_for most_marks o form k ms tol (length cs) (length fs) (length ws) (length ps)

  pub by_gate : (q : Refusal) → number q ≡ gate → refused (number q) ≡ check_of o form ms tol k cs fs ws ps
  unfolding check_of
  by_gate q is = rw (← is, ne_eqb (number q) 0 (never_zero q))

  module _ (z : gate ≡ 0) where
    pub by_list : {v : Verdict} → v ≡ list_checked form (whole o ms) tol k cs fs ws ps → ok v ≡ check_of o form ms tol k cs fs ws ps
    unfolding check_of
    by_list e = rw (e, eq-eqb gate 0 z)

    pub gate-passed : PassedFor most_marks o form k ms tol (length cs) (length fs) (length ws) (length ps)
    gate-passed = passed_for most_marks o form k ms tol (length cs) (length fs) (length ws) (length ps) z

    even : Even ms
    even = passed-even gate-passed

    module _ (n : ℕ) (all : n ≡ again o + count ms) where
      firsts : listed n k fs ≡ listed (count (whole o ms)) k fs
      firsts = ap (λ (m : ℕ). listed m k fs) (all ∙ sym (whole-count o ms even))

      pub by_firsts : (f : Fault) → fault f ≡ listed n k fs → fault f ≡ list_checked form (whole o ms) tol k cs fs ws ps
      unfolding list_checked
      by_firsts f e = rw (← firsts, ← e)

      module _ (p : passed ≡ listed n k fs) where
        pub held : Listed form (whole o ms) k cs fs ws ps
        held =
            let h = gate-passed in
            let w = whole-count o ms even in
            let room = h.params in
            record { even = (whole-even o ms even).0; curves = h.curves; firsts = h.firsts; worsts = h.worsts; params = omega arith; rising = sym (p ∙ firsts) }

        pub by_curves : {v : Verdict} → v ≡ in_turn k (steps form (whole o ms) tol k cs fs ws ps) → v ≡ list_checked form (whole o ms) tol k cs fs ws ps
        unfolding list_checked
        by_curves e = e ∙ rw (← firsts, ← p)
