-- What a passed curve and a passed mark are, and back. Assumes nothing.
use Prim.Native.Nat.{ℕ, ◌+◌, ◌-◌, ◌≤◌, ◌<◌}
use native.Mathlib.Omega.{arith}
use mathlib.Core.Path.{◌≡◌, ◌∙◌}
use mathlib.Core.Bool.{Bool, true}
use mathlib.Core.List.{List}
use lib.ListN.{get_or}
use lib.Dec.{eqb}
use lib.Ieee.{Float, nan, binary64, to_bits, le}
use borrow.Author.Tests.{eqb-true, eq-eqb}
use Rattle.float.specs.Number.{finite}
use Rattle.float.proofs.Truth.{and_left, and_right, both}
use Rattle.plane.specs.declared.Point.{Point}
use Rattle.marks.specs.Marks.{count, mark_at}
use Rattle.form.specs.declared.Form.{Form}
use Rattle.form.specs.declared.Form.TheVariants.{Nine}
use Rattle.faults.specs.Tests.{first_at, curve_at, last_at, stop_at, same, curve_finite, runs, timed, near, distance_at, farthest, kept}
use Rattle.faults.proofs.Forms.{kept_nine}
use Rattle.checker.specs.declared.Fault.TheVariants.{B, C, D, E}
use Rattle.checker.specs.Check.{Verdict, passed, place, must, ◌then◌, in_turn, mark_checked, curve_checked}
use Rattle.sound.specs.Sound.{SamePoint}
use Rattle.checker.proofs.Turns.{must-true, both_pass, turn-each, turn_all}
use Rattle.sound.proofs.Kept.{Keeps, kept_by, kept_keeps, keeps_kept}

same_is : (p q : Point) → same p q ≡ true → SamePoint p q
unfolding same
same_is p q h = (eqb-true _ _ (and_left (eqb (to_bits binary64 p.x) (to_bits binary64 q.x)) _ h), eqb-true _ _ (and_right (eqb (to_bits binary64 p.x) (to_bits binary64 q.x)) _ h))

is_same : (p q : Point) → SamePoint p q → same p q ≡ true
unfolding same
is_same p q h = both _ _ (eq-eqb _ _ h.0) (eq-eqb _ _ h.1)

module _ (form : Form) (ms : List Float) (tol : Float) (k : ℕ) (cs : List Float) (fs ws : List ℕ) (ps : List Float) (j : ℕ) where
  -- curve j has no fault
  pub record Clear : Type 0 where
    pub numbers : curve_finite (curve_at form cs j) ≡ true
    pub begins : SamePoint (curve_at form cs j).start (mark_at ms (first_at fs j))
    pub ends : SamePoint (curve_at form cs j).end (mark_at ms (last_at (count ms) k fs j))
    pub times : (i : ℕ) → first_at fs j ≤ i → i < stop_at (count ms) k fs j → timed (count ms) (first_at fs j) i (get_or ps i nan) ≡ true
    pub nears : (i : ℕ) → first_at fs j ≤ i → i < stop_at (count ms) k fs j
        → (finite (distance_at (mark_at ms i) (curve_at form cs j) (get_or ps i nan)) ≡ true) × (le (distance_at (mark_at ms i) (curve_at form cs j) (get_or ps i nan)) tol ≡ true)
    pub keeps : form ≡ Nine → Keeps ms (curve_at form cs j) ps (first_at fs j) (stop_at (count ms) k fs j) cs ws j

  abbrev time : ℕ → Bool
  time i = timed (count ms) (first_at fs j) i (get_or ps i nan)

  abbrev close : ℕ → Bool
  close i = near tol (mark_at ms i) (curve_at form cs j) (get_or ps i nan)

  mark-passed : (i : ℕ) → mark_checked form ms tol k cs fs ws ps j i ≡ passed → (time i ≡ true) × (close i ≡ true)
  unfolding mark_checked
  mark-passed i h =
      let b = both_pass (must (C (place j i)) (time i)) (must (D (place j i)) (close i)) h in
      (must-true (C (place j i)) (time i) b.0, must-true (D (place j i)) (close i) b.1)

  near_is : (i : ℕ) → close i ≡ true
      → (finite (distance_at (mark_at ms i) (curve_at form cs j) (get_or ps i nan)) ≡ true) × (le (distance_at (mark_at ms i) (curve_at form cs j) (get_or ps i nan)) tol ≡ true)
  unfolding near
  near_is i h = (and_left (finite (distance_at (mark_at ms i) (curve_at form cs j) (get_or ps i nan))) _ h, and_right (finite (distance_at (mark_at ms i) (curve_at form cs j) (get_or ps i nan))) _ h)

  abbrev run : Bool
  run = runs (curve_at form cs j) (mark_at ms (first_at fs j)) (mark_at ms (last_at (count ms) k fs j))

  abbrev marks : ℕ → Verdict
  marks i = mark_checked form ms tol k cs fs ws ps j (first_at fs j + i)

  abbrev all : Verdict
  all = in_turn (stop_at (count ms) k fs j - first_at fs j) marks

  abbrev keep : Bool
  keep = kept form cs ws j (farthest ms (curve_at form cs j) ps (first_at fs j) (stop_at (count ms) k fs j - first_at fs j))

  pub clear : first_at fs j < stop_at (count ms) k fs j → curve_checked form ms tol k cs fs ws ps j ≡ passed → Clear
  unfolding curve_checked runs
  clear o h =
      let b = both_pass (must (B (place j (first_at fs j))) run) (all then must (E (place j (first_at fs j))) keep) h in
      let d = both_pass all (must (E (place j (first_at fs j))) keep) b.1 in
      let r : run ≡ true = must-true (B (place j (first_at fs j))) run b.0 in
      let x : keep ≡ true = must-true (E (place j (first_at fs j))) keep d.1 in
      let e = and_right (curve_finite (curve_at form cs j)) _ r in
      record {
        numbers = and_left (curve_finite (curve_at form cs j)) _ r;
        begins = same_is _ _ (and_left (same (curve_at form cs j).start (mark_at ms (first_at fs j))) _ e);
        ends = same_is _ _ (and_right (same (curve_at form cs j).start (mark_at ms (first_at fs j))) _ e);
        times = λ i l u. (one d.0 i l u).0;
        nears = λ i l u. near_is i (one d.0 i l u).1;
        keeps = λ n. kept_keeps ms (curve_at form cs j) ps (first_at fs j) (stop_at (count ms) k fs j) o (λ i l u. (near_is i (one d.0 i l u).1).0) cs ws j (kept_nine form cs ws j _ n ∙ x);
      }
    where
      one : all ≡ passed → (i : ℕ) → first_at fs j ≤ i → i < stop_at (count ms) k fs j → (time i ≡ true) × (close i ≡ true)
      one h i l u =
          let e : first_at fs j + (i - first_at fs j) ≡ i = omega arith in
          mark-passed i (rw e at (turn-each marks (stop_at (count ms) k fs j - first_at fs j) h (i - first_at fs j) (omega arith)))

  pub clear_passes : Clear → first_at fs j < stop_at (count ms) k fs j → curve_checked form ms tol k cs fs ws ps j ≡ passed
  unfolding curve_checked runs mark_checked near
  clear_passes c o =
      let r : run ≡ true = both _ _ c.numbers (both _ _ (is_same _ _ c.begins) (is_same _ _ c.ends)) in
      let t : all ≡ passed = turn_all marks (stop_at (count ms) k fs j - first_at fs j) one in
      let x : keep ≡ true = kept_by form cs ws j _ (λ n. keeps_kept ms (curve_at form cs j) ps (first_at fs j) (stop_at (count ms) k fs j) o (λ i l u. (c.nears i l u).0) cs ws j (c.keeps n)) in
      rw (r, t, x)
    where
      one : (i : ℕ) → i < stop_at (count ms) k fs j - first_at fs j → marks i ≡ passed
      one i l =
          let n = c.nears (first_at fs j + i) (omega arith) (omega arith) in
          simp (c.times (first_at fs j + i) (omega arith) (omega arith), n.0, n.1)
