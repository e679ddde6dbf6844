-- Laws of the run's definition. Assumes nothing.
use Prim.Native.Nat.{ℕ, zero, suc, ◌+◌, ◌-◌, ◌*◌, ◌≤◌, ◌<◌}
use native.Mathlib.Omega.{arith}
use mathlib.Core.Path.{◌≡◌, refl, sym, subst}
use mathlib.Core.Bool.{Bool, true, false}
use mathlib.Core.List.{List, [], ◌∷◌}
use lib.ListN.{length, length-append, length-take, length-drop}
use lib.Ieee.{Float}
use Rattle.float.specs.Answer.{Answer, ok, unless, outcome}
use Rattle.float.specs.Answer.{refused as no}
use Rattle.plane.specs.declared.Point.{Point}
use Rattle.plane.specs.declared.Curve.{Curve}
use Rattle.marks.specs.Marks.{count}
use Rattle.form.specs.Form.{record_numbers}
use Rattle.stages.specs.declared.worst.Worst.{Worst}
use Rattle.part.specs.Part.{Part, fits, cuts, fails, part_of}
use Rattle.gate.specs.Gate.{Usable}
use Rattle.ends.proofs.Usable.{usable-take, usable-drop}
use Rattle.ends.specs.Rounds.{Inside}
use Rattle.ends.proofs.Parts.{Fits, Sound, part_sound, cuts-inside}
use Rattle.cut.specs.Run.{Run, refused, done, Beside, beside, flat, left_of, right_of, join, turned, run, run_of, cut_of}
use Rattle.tangents.specs.Ways.{ways_at}
use Rattle.tangents.specs.declared.Ways.{Ways}

pub left_count : (k : ℕ) (ms : List Float) → k + 1 < count ms → count (left_of k ms) ≡ k + 1
left_count k ms h = simp (length-take) (omega arith)

pub right_count : (k : ℕ) (ms : List Float) → k + 1 < count ms → count (right_of k ms) ≡ count ms - k
right_count k ms h = simp (length-drop) (omega arith)

-- each side's marks are in range
pub usable_left : (k : ℕ) {ms : List Float} {tol : Float} → Usable ms tol → Usable (left_of k ms) tol
usable_left k u = usable-take (2 * k + 2) u

pub usable_right : (k : ℕ) {ms : List Float} {tol : Float} → Usable ms tol → Usable (right_of k ms) tol
usable_right k u = usable-drop (2 * k) u

-- ---- any fuel from the number of marks on gives the same run

turned_ext : (w : Answer Ways) (f g : Ways → Run) → ((t : Ways) → f t ≡ g t) → turned w f ≡ turned w g
turned_ext (ok t) f g h = h t
turned_ext (no q) f g h = refl

pub run_fuel : (d d' : ℕ) (ms : List Float) (first : ℕ) (s e : Point) (tol : Float) → 2 ≤ count ms → Usable ms tol → count ms ≤ d → count ms ≤ d'
    → run d (part_of ms s e tol) ms first s e tol ≡ run d' (part_of ms s e tol) ms first s e tol
unfolding run
run_fuel zero d' ms first s e tol h u l l' = absurd (omega arith)
run_fuel (suc d) zero ms first s e tol h u l l' = absurd (omega arith)
run_fuel (suc d) (suc d') ms first s e tol h u l l' =
    go (part_of ms s e tol) (part_sound ms tol h u s e)
    (λ k t i j. let n = left_count k ms j in run_fuel d d' (left_of k ms) first s t.end tol (omega arith) (usable_left k u) (omega arith) (omega arith))
    (λ k t i j. let n = right_count k ms j in run_fuel d d' (right_of k ms) (first + k) t.start e tol (omega arith) (usable_right k u) (omega arith) (omega arith))
  where
    go : (P : Part) → Sound ms tol P
        → ((k : ℕ) (t : Ways) → 0 < k → k + 1 < count ms → run d (part_of (left_of k ms) s t.end tol) (left_of k ms) first s t.end tol ≡ run d' (part_of (left_of k ms) s t.end tol) (left_of k ms) first s t.end tol)
        → ((k : ℕ) (t : Ways) → 0 < k → k + 1 < count ms → run d (part_of (right_of k ms) t.start e tol) (right_of k ms) (first + k) t.start e tol ≡ run d' (part_of (right_of k ms) t.start e tol) (right_of k ms) (first + k) t.start e tol)
        → run (suc d) P ms first s e tol ≡ run (suc d') P ms first s e tol
    go (fits c w ps) sd L R = refl
    go (fails q) sd L R = refl
    go (cuts k) sd L R = turned_ext (outcome (ways_at ms k)) _ _ (λ t. rw (L k t sd.0 sd.1, R k t sd.0 sd.1))

-- ---- the run by cases of the leaf: proofs unfold it by these three, and never see the fuel

module _ (ms : List Float) (first : ℕ) (s e : Point) (tol : Float) (h : 2 ≤ count ms) where
  pub run_fits : (c : Curve) (w : Worst) (ps : List Float) → part_of ms s e tol ≡ fits c w ps → run_of ms first s e tol ≡ done (flat c w.err) (beside first (first + w.at) ∷ []) ps
  unfolding run_of run
  run_fits c w ps q = rw q (go (count ms) (omega arith))
    where
      go : (d : ℕ) → 0 < d → run d (fits c w ps) ms first s e tol ≡ done (flat c w.err) (beside first (first + w.at) ∷ []) ps
      go zero l = absurd (omega arith)
      go (suc d) l = refl

  pub run-fails : (q : ℕ) → part_of ms s e tol ≡ fails q → run_of ms first s e tol ≡ refused q
  unfolding run_of run
  run-fails q w = rw w (go (count ms) (omega arith))
    where
      go : (d : ℕ) → 0 < d → run d (fails q) ms first s e tol ≡ refused q
      go zero l = absurd (omega arith)
      go (suc d) l = refl

  pub run-cuts : Usable ms tol → (k : ℕ) → part_of ms s e tol ≡ cuts k → run_of ms first s e tol ≡ cut_of ms k first s e tol
  unfolding run_of run
  run-cuts u k w = rw w (go (count ms) refl)
    where
      sound : Inside ms k
      sound = cuts-inside ms s e tol k h u w

      go : (d : ℕ) → count ms ≡ d → run d (cuts k) ms first s e tol ≡ cut_of ms k first s e tol
      go zero l = absurd (omega arith)
      go (suc d) l =
          let lc = left_count k ms sound.1 in
          let rc = right_count k ms sound.1 in
          turned_ext (outcome (ways_at ms k)) _ _ (λ t.
          rw (
            run_fuel d (count (left_of k ms)) (left_of k ms) first s t.end tol (omega (arith, sound)) (usable_left k u) (omega (arith, sound)) (omega arith),
            run_fuel d (count (right_of k ms)) (right_of k ms) (first + k) t.start e tol (omega (arith, sound)) (usable_right k u) (omega (arith, sound)) (omega arith),
          ))

-- ---- induction: what holds of one curve and of refusal 6, and is kept by a join, holds of every run of marks in range. P is a law of every part

module _ (tol : Float) (P : List Float → Part → Type 0) (part-law : (ms : List Float) (s e : Point) → 2 ≤ count ms → P ms (part_of ms s e tol)) (Q : List Float → ℕ → Run → Type 0)
    (one : (ms : List Float) (first : ℕ) (c : Curve) (w : Worst) (ps : List Float) → 2 ≤ count ms → Fits ms tol c w ps → P ms (fits c w ps) → Q ms first (done (flat c w.err) (beside first (first + w.at) ∷ []) ps))
    (none : (ms : List Float) (first : ℕ) → Q ms first (refused 6))
    (both : (ms : List Float) (first k : ℕ) (R R' : Run) → 0 < k → k + 1 < count ms → Q (left_of k ms) first R → Q (right_of k ms) (first + k) R' → Q ms first (join k R R')) where
  ind : (d : ℕ) (ms : List Float) (first : ℕ) (s e : Point) → 2 ≤ count ms → Usable ms tol → count ms ≤ d → Q ms first (run d (part_of ms s e tol) ms first s e tol)
  unfolding run outcome
  ind zero ms first s e h u l = absurd (omega arith)
  ind (suc d) ms first s e h u l =
      go (part_of ms s e tol) (part_sound ms tol h u s e) (part-law ms s e h)
      (λ k t i j. let n = left_count k ms j in ind d (left_of k ms) first s t.end (omega arith) (usable_left k u) (omega arith))
      (λ k t i j. let n = right_count k ms j in ind d (right_of k ms) (first + k) t.start e (omega arith) (usable_right k u) (omega arith))
    where
      turn : (b : Bool) (t : Ways) (f : Ways → Run) → Q ms first (f t) → Q ms first (turned (unless 6 b (ok t)) f)
      turn true t f h = h
      turn false t f h = none ms first

      go : (X : Part) → Sound ms tol X → P ms X
          → ((k : ℕ) (t : Ways) → 0 < k → k + 1 < count ms → Q (left_of k ms) first (run d (part_of (left_of k ms) s t.end tol) (left_of k ms) first s t.end tol))
          → ((k : ℕ) (t : Ways) → 0 < k → k + 1 < count ms → Q (right_of k ms) (first + k) (run d (part_of (right_of k ms) t.start e tol) (right_of k ms) (first + k) t.start e tol))
          → Q ms first (run (suc d) X ms first s e tol)
      go (fits c w ps) sd p L R = one ms first c w ps h sd p
      go (fails q) sd p L R = subst (λ (q : ℕ). Q ms first (refused q)) (sym sd) (none ms first)
      go (cuts k) sd p L R = let t = (ways_at ms k).val in turn (ways_at ms k).fine t _ (both ms first k _ _ sd.0 sd.1 (L k t sd.0 sd.1) (R k t sd.0 sd.1))

  pub run_by : (ms : List Float) (first : ℕ) (s e : Point) → 2 ≤ count ms → Usable ms tol → Q ms first (run_of ms first s e tol)
  unfolding run_of
  run_by ms first s e h u = ind (count ms) ms first s e h u (omega arith)

-- the same, where `Fits` is all that is needed of a part
module _ (tol : Float) (Q : List Float → ℕ → Run → Type 0)
    (one : (ms : List Float) (first : ℕ) (c : Curve) (w : Worst) (ps : List Float) → 2 ≤ count ms → Fits ms tol c w ps → Q ms first (done (flat c w.err) (beside first (first + w.at) ∷ []) ps))
    (none : (ms : List Float) (first : ℕ) → Q ms first (refused 6))
    (both : (ms : List Float) (first k : ℕ) (R R' : Run) → 0 < k → k + 1 < count ms → Q (left_of k ms) first R → Q (right_of k ms) (first + k) R' → Q ms first (join k R R')) where
  pub run_ind : (ms : List Float) (first : ℕ) (s e : Point) → 2 ≤ count ms → Usable ms tol → Q ms first (run_of ms first s e tol)
  run_ind = run_by tol (λ ms p. Unit {0}) (λ ms s e h. tt) Q (λ ms first c w ps h f u. one ms first c w ps h f) none both

-- ---- sizes: from 1 to n - 1 curves, nine numbers for each, and n parameters

abbrev pub Sizes : ℕ → List Float → List Beside → List Float → Type 0
Sizes n cs bs ps = (0 < length bs) × (length bs < n) × (length cs ≡ record_numbers * length bs) × (length ps ≡ n)

abbrev pub Sized : List Float → ℕ → Run → Type 0
Sized ms first (refused q) = Unit {0}
Sized ms first (done cs bs ps) = Sizes (count ms) cs bs ps

pub sized_join : (ms : List Float) (first k : ℕ) (R R' : Run) → 0 < k → k + 1 < count ms → Sized (left_of k ms) first R → Sized (right_of k ms) (first + k) R' → Sized ms first (join k R R')
sized_join ms first k (refused q) R' i j l r = tt
sized_join ms first k (done c b p) (refused q) i j l r = tt
sized_join ms first k (done c b p) (done c' b' p') i j l r =
    let lc = left_count k ms j in
    let rc = right_count k ms j in
    let la = l.1 in let ld = l.3 in
    let ra = r.1 in let rd = r.3 in
    (simp length-append (omega arith), simp length-append (omega arith), simp length-append (omega arith), simp (length-append, length-take) (omega arith))

pub run_sized : (ms : List Float) (first : ℕ) (s e : Point) (tol : Float) → 2 ≤ count ms → Usable ms tol → Sized ms first (run_of ms first s e tol)
run_sized ms first s e tol =
    run_ind tol Sized
    (λ ms first c w ps h f. (omega arith, omega arith, refl, f.many))
    (λ ms first. tt)
    sized_join ms first s e
