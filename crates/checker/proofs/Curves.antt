-- One curve: its marks lie within the lists, and the marks that are read and walked are those of the outline. Assumes nothing.
use Prim.Native.Nat.{ℕ, ◌+◌, ◌-◌, ◌*◌, ◌≤◌, ◌<◌}
use native.Mathlib.Omega.{arith}
use mathlib.Core.Path.{◌≡◌, sym, ap, ◌∙◌}
use mathlib.Core.Bool.{Bool, true, false}
use mathlib.Core.List.{List}
use lib.ListN.{length, drop}
use lib.Seq.{get_or-drop}
use lib.Ieee.{Float, nan}
use Rattle.std.specs.Prelude.{Ok, Err}
use Rattle.plane.specs.declared.Point.{Point}
use Rattle.plane.specs.declared.Curve.{Curve}
use Rattle.marks.specs.Marks.{count, mark_at}
use Rattle.marks.proofs.Parts.{mark-drop}
use Rattle.form.specs.declared.Form.{Form}
use Rattle.ring.specs.Ring.{again, whole, Even}
use Rattle.ring.specs.declared.Outline.{Outline}
use Rattle.ring.specs.declared.Outline.TheVariants.{Closed}
use Rattle.ring.proofs.Whole.{again-small, whole-count, halves, given, as-closed}
use Rattle.stages.specs.declared.worst.Worst.{Worst}
use Rattle.faults.specs.Tests.{first_at, curve_at, last_at, stop_at, runs, unmeasured, square_at, farthest, kept}
use Rattle.faults.proofs.Farther.{farther_same}
use Rattle.faults.proofs.Firsts.{span}
use Rattle.checker.specs.declared.Fault.{Fault}
use Rattle.checker.specs.declared.Fault.TheVariants.{B, E}
use Rattle.checker.specs.Check.{Verdict, fault, place, must, ◌then◌, in_turn, mark_checked, curve_checked}
use Rattle.checker.specs.Inner.{under_checked, walked_by, Listed, Under}
use Rattle.checker.proofs.Turns.{turn_same}
use Rattle.checker.proofs.Firsts.{risen}
use Rattle.checker.proofs.Walks.{far_is, stop_is, walk, square, over, same_square}

-- the places of curve j's marks in the lists, of n marks that count
pub record Places (o : Outline) (ms : List Float) (n k : ℕ) (fs : List ℕ) (ps : List Float) (j : ℕ) : Type 0 where
  pub even : Even ms
  pub all : n ≡ count (whole o ms)
  pub two : 2 ≤ n
  pub first : first_at fs j < count ms
  pub last : last_at n k fs j < n
  pub order : first_at fs j < stop_at n k fs j
  pub stop : stop_at n k fs j ≤ n
  pub round : n ≤ count ms + 1
  pub params : n ≤ length ps

pub places : (o : Outline) (ms : List Float) {form : Form} {k : ℕ} {cs : List Float} {fs ws : List ℕ} {ps : List Float} {j m : ℕ} → m ≡ again o → (j < k) × Listed form (whole o ms) k cs fs ws ps → Places o ms (m + count ms) k fs ps j
places o ms {k = k} {fs = fs} {j = j} {m = m} e (l, h) =
    let r = risen (count (whole o ms)) k fs h.rising in
    let few = r.few in
    let some = r.some in
    let two : 2 ≤ count (whole o ms) = omega arith in
    let even = (halves o ms (count (whole o ms)) (let e = h.even in omega arith) two).0 in
    let all : m + count ms ≡ count (whole o ms) = ap (λ (i : ℕ). i + count ms) e ∙ sym (whole-count o ms even) in
    let small = again-small o in
    let p = h.params in
    let b = r.below j l in
    let s = span (m + count ms) k fs j (rw all r) l in
    record { even = even; all = all; two = omega arith; first = omega arith; last = s.last; order = s.starts; stop = s.stops; round = omega arith; params = omega arith }

module _ (o : Outline) (form : Form) (ms : List Float) (tol : Float) (k : ℕ) (cs : List Float) (fs ws : List ℕ) (ps : List Float) where
  module _ (n j : ℕ) (b : Places o ms n k fs ps j) (c : Curve) (first : ℕ) (is_c : c ≡ curve_at form cs j) (is_first : first ≡ first_at fs j) where
    abbrev test : Bool
    test = runs (curve_at form cs j) (mark_at (whole o ms) (first_at fs j)) (mark_at (whole o ms) (last_at (count (whole o ms)) k fs j))

    module _ (last : ℕ) (p q : Point) (r : Bool) (is_last : last ≡ last_at n k fs j) (is-p : p ≡ mark_at ms first) (is-q : q ≡ mark_at (whole Closed ms) last) (is-r : r ≡ runs c p q) where
      pub tested : r ≡ test
      tested =
          let p_is : p ≡ mark_at (whole o ms) (first_at fs j) = is-p ∙ sym (given o ms first (omega arith)) ∙ ap (mark_at (whole o ms)) is_first in
          let at : last ≡ last_at (count (whole o ms)) k fs j = is_last ∙ ap (λ (m : ℕ). last_at m k fs j) b.all in
          let q_is : q ≡ mark_at (whole o ms) (last_at (count (whole o ms)) k fs j) = is-q ∙ as-closed o ms last (omega arith) ∙ ap (mark_at (whole o ms)) at in
          cc

      pub fault_b : r ≡ false → fault (B (place j first)) ≡ curve_checked form (whole o ms) tol k cs fs ws ps j
      unfolding curve_checked
      fault_b f =
          let t : test ≡ false = sym tested ∙ f in
          rw (t, is_first)

    -- the marks under the curve
    module _ (stop : ℕ) (is_stop : stop ≡ stop_at n k fs j) where
      pub under : Under ms ps n first stop
      under = record { even = b.even; order = omega arith; given = omega arith; behind = omega arith; within = omega arith; params = omega arith }

      mark : (i : ℕ) → i < stop - first → mark_at (drop (2 * first) (whole Closed ms)) i ≡ mark_at (whole o ms) (first + i)
      mark i l =
          let s = b.stop in
          let a = b.all in
          mark-drop (whole Closed ms) first i ∙ as-closed o ms (first + i) (omega arith)

      one : (i : ℕ) → i < stop - first → walk tol n j first c ms ps i ≡ mark_checked form (whole o ms) tol k cs fs ws ps j (first + i)
      unfolding under_checked mark_checked
      one i l = rw (mark i l) (simp (get_or-drop, is_c, is_first, b.all))

      far : (i : ℕ) → i < stop - first → square tol n j first c ms ps i ≡ square_at (whole o ms) c ps (first + i)
      far i l = same_square tol n j first c ms ps (drop (2 * first) (whole Closed ms)) (drop first ps) (whole o ms) ps i (first + i) (mark i l) (get_or-drop first ps i nan)

      abbrev tests : Verdict
      tests = in_turn (stop - first) (λ i. mark_checked form (whole o ms) tol k cs fs ws ps j (first + i))

      farthest_is : over tol n j first c ms ps (stop - first) ≡ walked_by tests (farthest (whole o ms) c ps first (stop - first))
      farthest_is =
          rw (
            turn_same (walk tol n j first c ms ps) (λ i. mark_checked form (whole o ms) tol k cs fs ws ps j (first + i)) (stop - first) one,
            farther_same (unmeasured first) (square tol n j first c ms ps) (λ i. square_at (whole o ms) c ps (first + i)) first (stop - first) far,
          )

      -- E of the curve, if the marks under it have no fault
      abbrev end : Worst → Verdict
      end w = must (E (place j first)) (kept form cs ws j w)

      module _ (t : test ≡ true) where
        all : tests then end (farthest (whole o ms) c ps first (stop - first)) ≡ curve_checked form (whole o ms) tol k cs fs ws ps j
        unfolding curve_checked
        all = rw (t, is_stop, b.all, is_first, is_c)

        pub curve_halt : (f : Fault) → Err f ≡ over tol n j first c ms ps (stop - first) → fault f ≡ curve_checked form (whole o ms) tol k cs fs ws ps j
        curve_halt f e =
            let h = stop_is tests (farthest (whole o ms) c ps first (stop - first)) (sym (e ∙ farthest_is)) in
            ap (λ (v : Verdict). v then end (farthest (whole o ms) c ps first (stop - first))) (sym h) ∙ all

        pub curve-rest : (w : Worst) → Ok w ≡ over tol n j first c ms ps (stop - first) → {v : Verdict} → v ≡ end w → v ≡ curve_checked form (whole o ms) tol k cs fs ws ps j
        curve-rest w is e =
            let h = far_is tests (farthest (whole o ms) c ps first (stop - first)) (sym (is ∙ farthest_is)) in
            e ∙ ap end (sym h.1) ∙ ap (λ (v : Verdict). v then end (farthest (whole o ms) c ps first (stop - first))) (sym h.0) ∙ all
