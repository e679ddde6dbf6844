-- Tests in turn: all of them pass exactly when each does, and the first that fails is the answer. Assumes nothing.
use Prim.Native.Nat.{ℕ, zero, suc, ◌+◌, ◌≤◌, ◌<◌}
use native.Mathlib.Nat.{eq-or-lt_of_le}
use native.Mathlib.Numerals.{add-one}
use native.Mathlib.Omega.{arith}
use mathlib.Core.Path.{◌≡◌, refl, ap, ◌∙◌}
use mathlib.Core.Logic.{◌⊎◌, inl, inr}
use mathlib.Core.Bool.{Bool, true, false}
use Rattle.std.specs.Prelude.{Result, Err}
use Rattle.std.specs.Result.{IsErrAnd}
use Rattle.std.proofs.lemmas.Result.{err_from_is_err_and}
use Rattle.checker.specs.declared.Fault.{Fault}
use Rattle.checker.specs.Check.{Verdict, passed, fault, must, ◌then◌, in_turn}

never_fault : {f : Fault} {A : Type 0} → fault f ≡ passed → A
never_fault e = let z : ◌≡◌ {A = ℕ} 0 1 = cc in absurd (omega arith)

-- what a `?` hands on is the fault of the call
pub halted : {A : Type 0} (r : Result A Fault) (f : Fault) → IsErrAnd r (λ y. y ≡ f) → r ≡ Err f
halted r f h =
    let p = err_from_is_err_and r h in
    p.1 ∙ ap Err p.2

pub must-true : (f : Fault) (b : Bool) → must f b ≡ passed → b ≡ true
must-true f true h = refl
must-true f false h = never_fault h

pub both_pass : (v w : Verdict) → v then w ≡ passed → (v ≡ passed) × (w ≡ passed)
both_pass passed w h = (refl, h)
both_pass (fault f) w h = never_fault h

module _ (f : ℕ → Verdict) where
  pub turn_next : (n : ℕ) → in_turn n f ≡ passed → f n ≡ passed → in_turn (n + 1) f ≡ passed
  unfolding in_turn
  turn_next n h g = rw (add-one, h) g

  -- one more test after those that passed, and after a fault
  pub turn_last : (n : ℕ) → in_turn n f ≡ passed → in_turn (suc n) f ≡ f n
  unfolding in_turn
  turn_last n h = rw h

  pub turn_halted : (n : ℕ) (x : Fault) → in_turn n f ≡ fault x → in_turn (suc n) f ≡ fault x
  unfolding in_turn
  turn_halted n x h = rw h

  pub turn_one : in_turn 1 f ≡ f 0
  unfolding in_turn
  turn_one = refl

  pub turn_stop : (n j : ℕ) (x : Fault) → j < n → in_turn j f ≡ passed → f j ≡ fault x → in_turn n f ≡ fault x
  unfolding in_turn
  turn_stop zero j x l h g = absurd (omega arith)
  turn_stop (suc n) j x l h g = let m : j ≤ n = omega arith in go (eq-or-lt_of_le m) (λ k. turn_stop n j x k h g)
    where
      go : (j ≡ n) ⊎ (j < n) → (j < n → in_turn n f ≡ fault x) → in_turn n f then f n ≡ fault x
      go (inl e) before = rw (← e, h) g
      go (inr k) before = rw (before k)

  pub turn-each : (n : ℕ) → in_turn n f ≡ passed → (i : ℕ) → i < n → f i ≡ passed
  unfolding in_turn
  turn-each zero h i l = absurd (omega arith)
  turn-each (suc n) h i l =
      let b = both_pass (in_turn n f) (f n) h in
      let m : i ≤ n = omega arith in
      go (eq-or-lt_of_le m) (λ k. turn-each n b.0 i k) b.1
    where
      go : (i ≡ n) ⊎ (i < n) → (i < n → f i ≡ passed) → f n ≡ passed → f i ≡ passed
      go (inl e) before last = rw e last
      go (inr k) before last = before k

  pub turn_all : (n : ℕ) → ((i : ℕ) → i < n → f i ≡ passed) → in_turn n f ≡ passed
  unfolding in_turn
  turn_all zero h = refl
  turn_all (suc n) h = rw (turn_all n (λ i l. h i (omega arith))) (h n (omega arith))

-- the same tests, the same verdict
pub turn_same : (f g : ℕ → Verdict) (n : ℕ) → ((i : ℕ) → i < n → f i ≡ g i) → in_turn n f ≡ in_turn n g
unfolding in_turn
turn_same f g zero h = refl
turn_same f g (suc n) h = rw (turn_same f g n (λ i l. h i (omega arith)), h n (omega arith))
