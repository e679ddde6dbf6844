-- The list checker: A over the whole list; then, curve by curve, B, mark by mark C and D, and E. The first fault is the answer.
-- What each test asks (rises: A; runs: B; timed: C; near: D; kept: E) is `Tests` in `faults`. Definitions only.
use Rattle.std.specs.Prelude.{ℕ, zero, suc, ◌+◌, ◌-◌, Bool, true, false, ◌&&◌, cond, List, length, get_or, leb, ltb, eqb, Float}
use Rattle.std.specs.Float.{nan}
use Rattle.float.specs.Answer.{Answer, ok, refused}
use Rattle.float.specs.Refusal.{number}
use Rattle.limits.specs.Limits.{most_marks}
use Rattle.marks.specs.Marks.{count, mark_at}
use Rattle.form.specs.declared.Form.{Form}
use Rattle.ring.specs.Ring.{whole}
use Rattle.ring.specs.declared.Outline.{Outline}
use Rattle.gate.specs.Gate.{gate_for}
use Rattle.faults.specs.Tests.{first_at, curve_at, last_at, stop_at, rises, runs, timed, near, farthest, kept}
use Rattle.checker.specs.declared.Place.{Place}
use Rattle.checker.specs.declared.Fault.{Fault}
use Rattle.checker.specs.declared.Fault.TheVariants.{A, B, C, D, E}
use Rattle.checker.specs.declared.Checked.{Checked}
use Rattle.checker.specs.declared.Checked.TheVariants as checked

-- passed, or the first fault
pub data Verdict : Type 0 where
  passed : Verdict
  fault : Fault → Verdict

unfoldable pub checked_answer : Checked → Answer Verdict
checked_answer checked.Passed = ok passed
checked_answer (checked.Faulty f) = ok (fault f)
checked_answer (checked.Refused q) = refused (number q)

abbrev pub place : ℕ → ℕ → Place
place curve mark = record { curve = curve; mark = mark }

-- ---- tests in turn

-- a fault, if the test does not hold
abbrev pub must : Fault → Bool → Verdict
must f true = passed
must f false = fault f

-- one verdict, and after it another
infixr 40 ◌then◌
abbrev pub ◌then◌ : Verdict → Verdict → Verdict
passed then v = v
fault f then v = fault f

-- the verdicts 0, 1, .. n - 1 in turn
unfoldable pub in_turn : ℕ → (ℕ → Verdict) → Verdict
in_turn zero f = passed
in_turn (suc n) f = in_turn n f then f n

-- ---- A

-- 1 to n - 1 curves, whose first marks rise
unfoldable pub listed : ℕ → ℕ → List ℕ → Verdict
listed n k fs = must (A (place 0 0)) (leb 1 k && ltb k n) then in_turn k (λ j. must (A (place j 0)) (rises n fs j))

-- ---- B, then C and D, then E, then the whole

module _ (form : Form) (ms : List Float) (tol : Float) (k : ℕ) (cs : List Float) (fs ws : List ℕ) (ps : List Float) where
  -- C and D of mark i under curve j
  unfoldable pub mark_checked : ℕ → ℕ → Verdict
  mark_checked j i =
      must (C (place j i)) (timed (count ms) (first_at fs j) i (get_or ps i nan)) then must (D (place j i)) (near tol (mark_at ms i) (curve_at form cs j) (get_or ps i nan))

  -- how many marks are measured under curve j
  abbrev pub under : ℕ → ℕ
  under j = stop_at (count ms) k fs j - first_at fs j

  -- B of curve j, then its marks, then what is kept of them
  unfoldable pub curve_checked : ℕ → Verdict
  curve_checked j =
      must (B (place j (first_at fs j))) (runs (curve_at form cs j) (mark_at ms (first_at fs j)) (mark_at ms (last_at (count ms) k fs j)))
      then in_turn (under j) (λ i. mark_checked j (first_at fs j + i))
      then must (E (place j (first_at fs j))) (kept form cs ws j (farthest ms (curve_at form cs j) ps (first_at fs j) (under j)))

  -- A, then every curve
  unfoldable pub list_checked : Verdict
  list_checked = listed (count ms) k fs then in_turn k curve_checked

-- 3, 1, 2 of more than `most_marks` given, 4, 5; else the verdict over the marks that the outline runs over
unfoldable pub check_of : Outline → Form → List Float → Float → ℕ → List Float → List ℕ → List ℕ → List Float → Answer Verdict
check_of o form ms tol k cs fs ws ps =
    cond
    (eqb (gate_for most_marks o form k ms tol (length cs) (length fs) (length ws) (length ps)) 0)
    (ok (list_checked form (whole o ms) tol k cs fs ws ps))
    (refused (gate_for most_marks o form k ms tol (length cs) (length fs) (length ws) (length ps)))
