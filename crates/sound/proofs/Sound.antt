-- A list that is not refused passes exactly when it is sound. Assumes nothing.
use Prim.Native.Nat.{ℕ, ◌-◌, ◌<◌}
use native.Mathlib.Omega.{arith}
use mathlib.Core.Path.{◌≡◌, refl, sym, ap, ◌∙◌}
use mathlib.Core.Bool.{Bool, true, false, cond}
use mathlib.Core.List.{List}
use lib.ListN.{length, get_or}
use lib.Dec.{eqb}
use lib.Ieee.{Float, nan}
use borrow.Author.Tests.{eqb-true, eq-eqb}
use Rattle.float.specs.Answer.{ok, refused}
use Rattle.limits.specs.Limits.{most_marks}
use Rattle.marks.specs.Marks.{count}
use Rattle.form.specs.declared.Form.{Form}
use Rattle.ring.specs.Ring.{whole}
use Rattle.ring.specs.declared.Outline.{Outline}
use Rattle.gate.specs.Gate.{gate_for}
use Rattle.faults.specs.Tests.{first_at}
use Rattle.faults.proofs.Firsts.{Risen, ending, span}
use Rattle.checker.specs.Check.{Verdict, passed, in_turn, listed, curve_checked, list_checked, check_of}
use Rattle.sound.specs.Sound.{Sound}
use Rattle.checker.proofs.Turns.{both_pass, turn-each, turn_all}
use Rattle.checker.proofs.Firsts.{risen, listed_of}
use Rattle.sound.proofs.Unit.{timed-unit, timed_first, timed_last, timed_of}
use Rattle.sound.proofs.Under.{home, risen_of}
use Rattle.sound.proofs.Passes.{Clear, clear, clear_passes}

module _ (form : Form) (ms : List Float) (tol : Float) (k : ℕ) (cs : List Float) (fs ws : List ℕ) (ps : List Float) where
  pub checked-sound : list_checked form ms tol k cs fs ws ps ≡ passed → Sound form ms tol k cs fs ws ps
  unfolding list_checked
  checked-sound h =
      let b = both_pass (listed (count ms) k fs) (in_turn k (curve_checked form ms tol k cs fs ws ps)) h in
      let r = risen (count ms) k fs b.0 in
      sound r (λ j l. clear form ms tol k cs fs ws ps j (span (count ms) k fs j r l).starts (turn-each (curve_checked form ms tol k cs fs ws ps) k b.1 j l))
    where
      sound : Risen (count ms) k fs → ((j : ℕ) → j < k → Clear form ms tol k cs fs ws ps j) → Sound form ms tol k cs fs ws ps
      sound r c = record {
        some = r.some;
        from_first = r.from_zero;
        two_or_more = λ j l. (span (count ms) k fs j r l).rises;
        begins = λ j l. (c j l).begins;
        ends = λ j l. (c j l).ends;
        numbers = λ j l. (c j l).numbers;
        within_unit = λ i l.
            let m = home (count ms) k fs r i l in
            timed-unit (count ms) (first_at fs m.curve) i (get_or ps i nan) ((c m.curve m.listed).times i m.from m.upto);
        zero_at_first = λ j l.
            sym (timed_first (count ms) (first_at fs j) (first_at fs j) (get_or ps (first_at fs j) nan) refl) ∙ (c j l).times (first_at fs j) (omega arith) (span (count ms) k fs j r l).starts;
        one_at_last =
            let few = r.few in
            let some = r.some in
            let below = r.below (k - 1) (omega arith) in
            let e = ending (count ms) k fs (k - 1) (omega arith) in
            sym (timed_last (count ms) (first_at fs (k - 1)) (count ms - 1) (get_or ps (count ms - 1) nan) (λ s. omega arith) (omega arith))
            ∙ (c (k - 1) (omega arith)).times (count ms - 1) (omega arith) (omega arith);
        near-enough = λ j l i f u. (c j l).nears i f u;
        worst_is = λ n j l. ((c j l).keeps n).mark;
        distance_kept = λ n j l. ((c j l).keeps n).bits;
      }

  pub sound-checked : Sound form ms tol k cs fs ws ps → list_checked form ms tol k cs fs ws ps ≡ passed
  unfolding list_checked
  sound-checked s =
      let r = risen_of (count ms) k fs s.some s.from_first s.two_or_more in
      rw (listed_of (count ms) k fs r) (turn_all (curve_checked form ms tol k cs fs ws ps) k (λ j l. clear_passes form ms tol k cs fs ws ps j (one r j l) (span (count ms) k fs j r l).starts))
    where
      one : Risen (count ms) k fs → (j : ℕ) → j < k → Clear form ms tol k cs fs ws ps j
      one r j l = record {
        numbers = s.numbers j l;
        begins = s.begins j l;
        ends = s.ends j l;
        times = λ i f u.
            let p = span (count ms) k fs j r l in
            let q = p.stops in
            timed_of (count ms) (first_at fs j) i (get_or ps i nan) (λ e. rw e (s.zero_at_first j l)) (λ e. let d : i ≡ count ms - 1 = omega arith in rw d s.one_at_last) (s.within_unit i (omega arith));
        nears = λ i f u. s.near-enough j l i f u;
        keeps = λ n. record { mark = s.worst_is n j l; bits = s.distance_kept n j l };
      }

-- the marks that an outline runs over
module _ (o : Outline) (form : Form) (ms : List Float) (tol : Float) (k : ℕ) (cs : List Float) (fs ws : List ℕ) (ps : List Float) where
  abbrev gate : ℕ
  gate = gate_for most_marks o form k ms tol (length cs) (length fs) (length ws) (length ps)

  abbrev checked : Verdict
  checked = list_checked form (whole o ms) tol k cs fs ws ps

  -- a verdict is given exactly where the gate gives 0
  pub judged : (v : Verdict) → check_of o form ms tol k cs fs ws ps ≡ ok v → (gate ≡ 0) × (checked ≡ v)
  unfolding check_of
  judged v h = go (eqb gate 0) refl h
    where
      go : (b : Bool) → eqb gate 0 ≡ b → cond b (ok checked) (refused gate) ≡ ok v → (gate ≡ 0) × (checked ≡ v)
      go true e h = (eqb-true gate 0 e, cc)
      go false e h = let z : ◌≡◌ {A = ℕ} 0 1 = cc in absurd (omega arith)

  pub passes-sound : check_of o form ms tol k cs fs ws ps ≡ ok passed → Sound form (whole o ms) tol k cs fs ws ps
  passes-sound h = checked-sound form (whole o ms) tol k cs fs ws ps (judged passed h).1

  pub sound-passes : gate ≡ 0 → Sound form (whole o ms) tol k cs fs ws ps → check_of o form ms tol k cs fs ws ps ≡ ok passed
  unfolding check_of
  sound-passes g s = rw (eq-eqb gate 0 g) (ap ok (sound-checked form (whole o ms) tol k cs fs ws ps s))
