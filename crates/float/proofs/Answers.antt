-- What a run comes to, and answers one after the other. Assumes nothing.
use native.Mathlib.Omega.{arith}
use mathlib.Core.Path.{◌≡◌, refl, sym, ap, ◌∙◌}
use mathlib.Core.Bool.{Bool, true, false, ◌&&◌, cond}
use Prim.Native.Nat.{ℕ}
use Rattle.float.specs.Calc as Calc
use Rattle.float.specs.Calc.{Calc}
use Rattle.float.specs.Answer.{Answer, ok, refused, unless, outcome, ◌>>=◌}

-- every operation of the run gave a finite number
abbrev pub Fine : {A : Type 0} → Calc A → Type 0
Fine m = m.fine ≡ true

-- a test that passed, and one that did not
pub granted : {A : Type 0} (n : ℕ) {b : Bool} (a : Answer A) → b ≡ true → a ≡ unless n b a
granted n {b = b} a h = ap (λ (c : Bool). unless n c a) (sym h)

pub denied : {A : Type 0} (n : ℕ) {b : Bool} (a : Answer A) → b ≡ false → refused n ≡ unless n b a
denied n {b = b} a h = ap (λ (c : Bool). unless n c a) (sym h)

-- a run that picks one of two
pub pick-val : {A : Type 0} (b : Bool) (m n : Calc A) → (cond b m n).val ≡ cond b m.val n.val
pick-val true m n = refl
pick-val false m n = refl

pub pick-fine : {A : Type 0} (b : Bool) (m n : Calc A) → (cond b m n).fine ≡ cond b m.fine n.fine
pick-fine true m n = refl
pick-fine false m n = refl

pub outcome_ok : {A : Type 0} (m : Calc A) → Fine m → outcome m ≡ ok m.val
unfolding outcome
outcome_ok m h = rw h

pub outcome_no : {A : Type 0} (m : Calc A) → m.fine ≡ false → outcome m ≡ refused 6
unfolding outcome
outcome_no m h = rw h

-- a run refuses by 6 alone
six : {A : Type 0} (b : Bool) (a : A) (n : ℕ) → refused n ≡ unless 6 b (ok a) → unless 6 b (ok a) ≡ refused 6
six true a n h = cc
six false a n h = refl

pub only_six : {A : Type 0} (m : Calc A) (n : ℕ) → refused n ≡ outcome m → outcome m ≡ refused 6
unfolding outcome
only_six m n h = six m.fine m.val n h

-- by a test that tells whether the run was fine
pub outcome_by : {A : Type 0} (m : Calc A) (b : Bool) → m.fine ≡ b → outcome m ≡ unless 6 b (ok m.val)
unfolding outcome
outcome_by m b h = rw h

-- the outcome of two runs in turn is that of the first, and then of the second
pub outcome-then : {A B : Type 0} (m : Calc A) (f : A → Calc B) → outcome (Calc.◌>>=◌ m f) ≡ ◌>>=◌ (outcome m) (λ (a : A). outcome (f a))
unfolding outcome
outcome-then m f = go m.fine refl
  where
    go : (b : Bool) → m.fine ≡ b → unless 6 (m.fine && (f m.val).fine) (ok (f m.val).val) ≡ ◌>>=◌ (unless 6 m.fine (ok m.val)) (λ a. unless 6 (f a).fine (ok (f a).val))
    go true e = simp e
    go false e = simp e

-- a call whose arguments passed their test, and whose run was fine exactly where another test passed
pub settled : {A : Type 0} (n : ℕ) {test good : Bool} {r : Answer A} (m : Calc A) → m.fine ≡ good → test ≡ true → r ≡ unless 6 good (ok m.val) → r ≡ unless n test (outcome m)
settled n {good = good} m e h k = k ∙ sym (outcome_by m good e) ∙ granted n (outcome m) h

-- ---- values and refusals

-- a value is no refusal
pub not_refused : {A B : Type 0} (q : ℕ) {x : A} → ok x ≡ refused q → B
not_refused q e = let z : ◌≡◌ {A = ℕ} 0 1 = cc in absurd (omega arith)

-- a value behind a test: the test has passed
pub unless_ok : {A : Type 0} (q : ℕ) (b : Bool) (a : Answer A) {x : A} → unless q b a ≡ ok x → (b ≡ true) × (a ≡ ok x)
unless_ok q true a e = (refl, e)
unless_ok q false a e = not_refused q (sym e)
